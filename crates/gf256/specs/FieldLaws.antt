-- What holds of the product, whichever paper is laid beside it. Assumes nothing: this is a statement, and proofs/ shows it.
use Rattle.std.specs.Prelude.{ℕ, ◌*◌, ◌/◌, ◌%◌, ◌<◌, ◌≡◌}
use Rattle.std.specs.Int.Bits.{bit_xor}
use Rattle.gf256.specs.Field.{xtime, times, times_by_terms}

pub record FieldLaws : Type 0 where
  -- FIPS 197: the sum of the terms
  pub terms : (a b : ℕ) → times a b ≡ times_by_terms a b
  -- document 01: halved until it is zero, with no word of how many steps that takes
  pub zero : (b : ℕ) → times 0 b ≡ 0
  pub halved : (a b : ℕ) → a < 256 → times a b ≡ bit_xor (times (a / 2) (xtime b)) (a % 2 * b)
