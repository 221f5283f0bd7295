-- The field of 256 elements of FIPS 197, section 4: an octet is a polynomial over the field of two elements, its lowest coefficient in its
-- lowest bit. Sums are `bit_xor`; products are taken modulo m(x) = x^8 + x^4 + x^3 + x + 1. Assumes nothing: these are definitions.
use Rattle.std.specs.Prelude.{ℕ, zero, suc, ◌*◌, ◌/◌, ◌%◌, ◌^◌, cond, ltb}
use Rattle.std.specs.Int.Bits.{bit_xor}

-- m(x): bits 8, 4, 3, 1 and 0
abbrev pub m : ℕ
m = 0x11b

-- b times x (4.2.1): where that has the term x^8, m(x) is taken off
unfoldable pub xtime : ℕ → ℕ
xtime b = cond (ltb (b * 2) 256) (b * 2) (bit_xor (b * 2) m)

-- ---- the product of document 01: one factor is halved until it is zero, the other doubled at each step

-- a times b in at most n halvings of a: b where a has the term 1, and what is left of a, halved, times b doubled
unfoldable pub halving : (n a b : ℕ) → ℕ
halving zero a b = 0
halving (suc n) zero b = 0
halving (suc n) (suc a) b = bit_xor (halving n (suc a / 2) (xtime b)) (suc a % 2 * b)

-- a times b: an octet is zero after eight halvings
unfoldable pub times : ℕ → ℕ → ℕ
times a b = halving 8 a b

-- ---- the product of FIPS 197 (4.2): for each term x^j of a, b times x^j. `FieldLaws` has that it is the same

-- b times x^j
unfoldable pub xtimes : ℕ → ℕ → ℕ
xtimes zero b = b
xtimes (suc j) b = xtimes j (xtime b)

-- the coefficient of x^j in a
abbrev pub bit : ℕ → ℕ → ℕ
bit j a = a / 2 ^ j % 2

-- f j + f (j + 1) + .. , n terms
unfoldable pub sum : (ℕ → ℕ) → ℕ → ℕ → ℕ
sum f j zero = 0
sum f j (suc n) = bit_xor (sum f (suc j) n) (f j)

abbrev pub times_by_terms : ℕ → ℕ → ℕ
times_by_terms a b = sum (λ j. bit j a * xtimes j b) 0 8
