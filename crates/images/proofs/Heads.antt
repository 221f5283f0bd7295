-- The head of an image, written and read. Assumes nothing.
use Prim.Native.Nat.{ℕ, ◌+◌, ◌*◌, ◌/◌, ◌%◌, ◌<◌, ◌≤◌}
use mathlib.Core.Bool.{true, and-eq-true_iff}
use mathlib.Core.List.{[], ◌∷◌, ◌++◌, append_assoc}
use mathlib.Core.Path.{◌≡◌, refl, sym, ap, ap₂, ◌∙◌}
use native.Mathlib.Omega.{arith}
use borrow.Author.Tests.{leb-true}
use lib.Dec.{leb}
use lib.ListN.{length, get_or, take, length-append}
use lib.Seq.{drop-cons}
use Rattle.octets.specs.Octets.{Octets}
use Rattle.octets.proofs.Parts.{front, past, meet}
use Rattle.aka.specs.Functions.{Keys, Family, Shaped}
use Rattle.aka.specs.Layout.{key_size}
use Rattle.functions.specs.Sets.{is_set, sets}
use Rattle.aka.specs.Editions.{table, is_edition}
use Rattle.images.specs.Head.{nibble, k_at, head_size, head, edition_in, keys_in, admitted_head}

-- a known edition and a known set have 4 bits each
pub record Few (e : ℕ) (keys : Keys) : Type 0 where
  pub edition : e < nibble
  pub set : keys.set < nibble

pub few : (edition : ℕ) (keys : Keys) → sets.admits edition keys ≡ true → Few edition keys
unfolding sets is_edition is_set
few edition keys admitted =
    let both = (and-eq-true_iff (is_edition edition) (is_set keys.set)).0 admitted in
    let within = (and-eq-true_iff (leb 1 edition) (leb edition (length table))).0 both.0 in
    record { edition = omega (arith, leb-true edition (length table) within.1); set = omega (arith, leb-true keys.set 1 both.1) }

-- and the edition is a known one
pub known_edition : (edition : ℕ) (keys : Keys) → sets.admits edition keys ≡ true → is_edition edition ≡ true
unfolding sets
known_edition edition keys admitted = ((and-eq-true_iff (is_edition edition) (is_set keys.set)).0 admitted).0

pub length_head : (edition : ℕ) (keys : Keys) → Shaped keys → length (head edition keys) ≡ head_size
unfolding head
length_head edition keys shaped = simp length-append (omega (arith, shaped.k, shaped.opc))

-- an image has room for its head
pub has_room : (behind : ℕ) → head_size ≤ head_size + behind
has_room behind = omega arith

-- the first octet
abbrev first : (edition : ℕ) → Keys → ℕ
first edition keys = nibble * edition + keys.set

-- ---- the head of an image whose edition and set have 4 bits is read back

module _ (edition : ℕ) (keys : Keys) (rest : Octets) (small : Few edition keys) where
  pub read_edition : edition_in (head edition keys ++ rest) ≡ edition
  unfolding head
  read_edition = omega (arith, small.set)

  pub read_head : Shaped keys → keys_in (head edition keys ++ rest) ≡ keys
  unfolding head keys_in
  read_head shaped =
      rw (append_assoc keys.k keys.opc rest)
      (λ i. record {
        set = set i;
        k = (past (first edition keys ∷ []) behind k_at 0 key_size refl ∙ front keys.k (keys.opc ++ rest) key_size shaped.k) i;
        opc = (past (first edition keys ∷ []) behind k_at key_size key_size refl
            ∙ past keys.k (keys.opc ++ rest) key_size 0 key_size shaped.k
            ∙ front keys.opc rest key_size shaped.opc) i;
      })
    where
      behind : Octets
      behind = keys.k ++ (keys.opc ++ rest)

      set : first edition keys % nibble ≡ keys.set
      set = omega (arith, small.set)

  pub admitted_head_lem : (family : Family) → Shaped keys → family.admits edition keys ≡ true
      → admitted_head family (head edition keys ++ rest) ≡ true
  admitted_head_lem family shaped admitted =
      ap₂ family.admits read_edition (read_head shaped) ∙ admitted

-- ---- what is read of an image's head is written again

pub write_head : (x : Octets) → head_size ≤ length x → head (edition_in x) (keys_in x) ≡ take head_size x
unfolding head keys_in
write_head x size =
    ap₂ (λ (d : ℕ) (l : Octets). d ∷ l) (again (get_or x 0 0)) (meet k_at key_size key_size x)
    ∙ sym (ap (take head_size) (drop-cons x 0 0 (omega arith)))
  where
    again : (d : ℕ) → nibble * (d / nibble) + d % nibble ≡ d
    again d = omega arith
