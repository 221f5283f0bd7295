-- The S-box of FIPS 197, section 5.1.1, by the product of document 01. Assumes nothing: these are definitions.
use Rattle.std.specs.Prelude.{List, [], ◌∷◌, map, ◌≡◌, ℕ, zero, suc, ◌+◌, ◌%◌, ◌<◌, get_or}
use Rattle.octets.specs.Octets.{number}
use Rattle.gf256.specs.Field.{bit, times}

-- x^2 · x^4 · .. · x^(2^n)
unfoldable pub squares : ℕ → ℕ → ℕ
squares zero x = 1
squares (suc n) x = let y = times x x in times y (squares n y)

-- x^254: the inverse of x, and 0 for 0
unfoldable pub inverse : ℕ → ℕ
inverse x = squares 7 x

-- bit i of the affine map: b_i + b_(i+4) + b_(i+5) + b_(i+6) + b_(i+7) + c_i, places modulo 8, with c = 63
unfoldable pub affine_bit : ℕ → ℕ → ℕ
affine_bit b i = (bit i b + bit ((i + 4) % 8) b + bit ((i + 5) % 8) b + bit ((i + 6) % 8) b + bit ((i + 7) % 8) b + bit i 0x63) % 2

unfoldable pub affine : ℕ → ℕ
affine b = number 2 (map (affine_bit b) (7 ∷ 6 ∷ 5 ∷ 4 ∷ 3 ∷ 2 ∷ 1 ∷ 0 ∷ []))

unfoldable pub sbox : ℕ → ℕ
sbox x = affine (inverse x)

-- a table that holds the S-box, entry by entry
unfoldable pub IsSbox : List ℕ → Type 0
IsSbox table = (x : ℕ) → x < 256 → get_or table x 0 ≡ sbox x

-- what document 01 says of the rule beside its formula
pub record SboxLaws : Type 0 where
  -- x^254 is the inverse of x, and 0 counts as its own
  pub inverse_right : (x : ℕ) → x < 256 → (x ≡ 0 → ⊥) → times x (inverse x) ≡ 1
  pub inverse_zero : inverse 0 ≡ 0
  pub entry_0 : sbox 0 ≡ 0x63
  pub entry_1 : sbox 1 ≡ 0x7c
