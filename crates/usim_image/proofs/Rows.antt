-- What a row of the table of editions says of the packed places: they fill whole octets. Assumes nothing.
use Prim.Native.Nat.{ℕ, ◌*◌, ◌≤◌, ◌<◌}
use mathlib.Core.Path.{◌≡◌, sym, ap, ap₂, ◌∙◌, subst}
use native.Mathlib.Omega.{arith}
use lib.ListN.{length, take, length-take}
use Rattle.aka.specs.Sequence.{seq_bits}
use Rattle.aka.specs.Editions.{editions}
use Rattle.aka.proofs.Editions.{each_row}
use Rattle.editions.specs.declared.Numbering.{Numbering}
use Rattle.editions.specs.Views.{Numbers}
use Rattle.octets.specs.Octets.{Octets}
use Rattle.usim_image.proofs.RoundTrips.{whole_octets}

-- the first n of a list
pub count : (n : ℕ) (l : Octets) → n ≤ length l → length (take n l) ≡ n
count n l h = length-take n l ∙ omega arith

module _ (edition : ℕ) {r : Numbering} (n : Numbers (editions.numbering edition) r) where
  -- a place and the seven bits before it stand in a word
  pub bits_fit : (0 < r.bits) × (r.bits ≤ 56)
  bits_fit =
      subst (λ (b : ℕ). (0 < b) × (b ≤ 56)) (sym n.bits)
      (each_row (λ row. (0 < seq_bits row.numbering.width) × (seq_bits row.numbering.width ≤ 56)) (omega arith, omega arith)
      (omega arith, omega arith) edition)

  pub whole : r.bits * r.indices ≡ 8 * r.octets
  whole = ap₂ (λ (b i : ℕ). b * i) n.bits n.indices.number ∙ whole_octets edition ∙ ap (λ (k : ℕ). 8 * k) (sym n.octets)
