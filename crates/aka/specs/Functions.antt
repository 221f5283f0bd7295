-- The seven functions f1, f1*, f2, f3, f4, f5, f5* of TS 33.102 as the protocol sees them. Assumes nothing.
use Rattle.std.specs.Prelude.{ℕ, Bool, true, ◌≡◌, length}
use Rattle.octets.specs.Octets.{Octets, Below, zeros}
use Rattle.aka.specs.Layout.{key_size, rand_size, res_size, ck_size, ik_size, sqn_size, amf_size, mac_size}

-- what USIM and AuC both hold of a subscriber
pub record Keys : Type 0 where
  pub set : ℕ  -- the number of the function set
  pub k : Octets
  pub opc : Octets

-- the functions of one subscriber
pub record Functions : Type 0 where
  pub f1 : (sqn rand amf : Octets) → Octets  -- MAC
  pub f1* : (sqn rand amf : Octets) → Octets  -- MAC-S, of SQN_MS
  pub f2 : (rand : Octets) → Octets  -- RES and XRES
  pub f3 : (rand : Octets) → Octets  -- CK
  pub f4 : (rand : Octets) → Octets  -- IK
  pub f5 : (rand : Octets) → Octets  -- AK
  pub f5* : (rand : Octets) → Octets  -- AK*

-- the AMF of MAC-S: two zero octets
abbrev pub dummy_amf : Octets
dummy_amf = zeros amf_size

-- a family of function sets: which keys a record of an edition may hold (an unknown edition or set: none), and the functions under them
pub record Family : Type 0 where
  pub admits : (edition : ℕ) → Keys → Bool
  pub under : Keys → Functions

-- ---- the laws of a family. The protocol uses nothing else of it.

-- K and OPc have their length (the code's types see to it)
pub record Shaped (keys : Keys) : Type 0 where
  pub k : length keys.k ≡ key_size
  pub opc : length keys.opc ≡ key_size

-- of inputs of the right length, results have theirs
pub record Lengths (F : Functions) : Type 0 where
  pub f1 : (sqn rand amf : Octets) → length sqn ≡ sqn_size → length rand ≡ rand_size → length amf ≡ amf_size
      → length (F.f1 sqn rand amf) ≡ mac_size
  pub f1* : (sqn rand amf : Octets) → length sqn ≡ sqn_size → length rand ≡ rand_size → length amf ≡ amf_size
      → length (F.f1* sqn rand amf) ≡ mac_size
  pub f2 : (rand : Octets) → length rand ≡ rand_size → length (F.f2 rand) ≡ res_size
  pub f3 : (rand : Octets) → length rand ≡ rand_size → length (F.f3 rand) ≡ ck_size
  pub f4 : (rand : Octets) → length rand ≡ rand_size → length (F.f4 rand) ≡ ik_size
  pub f5 : (rand : Octets) → length rand ≡ rand_size → length (F.f5 rand) ≡ sqn_size
  pub f5* : (rand : Octets) → length rand ≡ rand_size → length (F.f5* rand) ≡ sqn_size

pub record Lawful (family : Family) : Type 0 where
  pub lengths : (edition : ℕ) (keys : Keys) → family.admits edition keys ≡ true → Shaped keys → Lengths (family.under keys)
  -- AK consists of octets where K, OPc and RAND do
  pub octets : (edition : ℕ) (keys : Keys) (rand : Octets) → family.admits edition keys ≡ true → Shaped keys
      → length rand ≡ rand_size → Below 256 keys.k → Below 256 keys.opc → Below 256 rand → Below 256 ((family.under keys).f5 rand)
