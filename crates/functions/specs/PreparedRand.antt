-- What the code makes once of a RAND, so that each function costs one block at most. Assumes nothing: these are definitions.
use Rattle.std.specs.Prelude.{ℕ, ◌≡◌, ◌++◌, take}
use Rattle.octets.specs.Octets.{Octets, part, xor}
use Rattle.aes_words.specs.declared.Block.{Block}
use Rattle.aes_words.specs.Block.{octets_of}
use Rattle.aes.specs.Cipher.{cipher}
use Rattle.milenage.specs.Milenage.{in1, out1}
use Rattle.milenage.specs.declared.Outputs as milenage
use Rattle.aka.specs.Functions.{Keys}
use Rattle.functions.specs.declared.PreparedRand.{PreparedRand}
use Rattle.functions.specs.declared.PreparedRand.TheVariants.{TestSet, Milenage}
use Rattle.functions.specs.Challenge.{IsSchedule}
use Rattle.functions.specs.Sets.{Outputs, test_outputs, milenage_outputs, base_of, sets}

-- what a prepared RAND gives, whatever it holds
abbrev pub outputs_from : PreparedRand → Outputs
outputs_from (TestSet x) = test_outputs (octets_of x)
outputs_from (Milenage m) = milenage_outputs (cipher m.cipher.now.schedule) (octets_of m.opc) (octets_of m.temp)

-- MAC and MAC-S: of set 0 they are the same, of MILENAGE the part of OUT1 that begins at `at`
abbrev pub mac_at : PreparedRand → (at : ℕ) → (sqn amf : Octets) → Octets
mac_at (TestSet x) at sqn amf = xor (take 8 (octets_of x)) (sqn ++ amf)
mac_at (Milenage m) at sqn amf =
    part at 8 (out1 (cipher m.cipher.now.schedule) (octets_of m.opc) (octets_of m.temp) (in1 sqn amf))

-- ---- one that belongs to the keys and the RAND

pub record OfTestSet (keys : Keys) (rand : Octets) (x : Block) : Type 0 where
  pub set : keys.set ≡ 0
  pub base : octets_of x ≡ base_of keys rand

pub record OfMilenage (keys : Keys) (rand : Octets) (m : milenage.Outputs) : Type 0 where
  pub set : keys.set ≡ 0 → ⊥
  pub opc : octets_of m.opc ≡ keys.opc
  pub base : octets_of m.temp ≡ base_of keys rand
  pub under : IsSchedule keys m.cipher.now.schedule

abbrev pub Prepared : Keys → (rand : Octets) → PreparedRand → Type 0
Prepared keys rand (TestSet x) = OfTestSet keys rand x
Prepared keys rand (Milenage m) = OfMilenage keys rand m

-- the law of one: what it gives are the functions of the family
pub record PreparedLaw (keys : Keys) (rand : Octets) (p : PreparedRand) : Type 0 where
  pub f1 : (sqn amf : Octets) → (outputs_from p).f1 sqn amf ≡ (sets.under keys).f1 sqn rand amf
  pub f1* : (sqn amf : Octets) → (outputs_from p).f1* sqn amf ≡ (sets.under keys).f1* sqn rand amf
  pub f2 : (outputs_from p).f2 ≡ (sets.under keys).f2 rand
  pub f3 : (outputs_from p).f3 ≡ (sets.under keys).f3 rand
  pub f4 : (outputs_from p).f4 ≡ (sets.under keys).f4 rand
  pub f5 : (outputs_from p).f5 ≡ (sets.under keys).f5 rand
  pub f5* : (outputs_from p).f5* ≡ (sets.under keys).f5* rand
