-- Doubling without a branch, and the laws of the product. Assumes nothing.
use mathlib.Core.Path.{◌≡◌, refl, sym, ap, ap₂, ◌∙◌}
use mathlib.Core.Logic.{⊎_elim}
use Prim.Native.Nat.{ℕ, zero, suc, ◌+◌, ◌-◌, ◌*◌, ◌/◌, ◌%◌, ◌^◌, ◌≤◌, ◌<◌}
use native.Mathlib.Nat.{zero-mul, zero-add, one-mul, mul-le-mul_right, pow-suc, div-one, div-div-eq-div-mul, eq-zero-or-pos}
use native.Mathlib.Omega.{arith}
use borrow.Author.Tests.{lt-ltb, le-ltb}
use lib.Bits.{bit_xor, xor_block, xor_zero_r}
use Rattle.gf256.specs.Field.{m, xtime, halving, times, xtimes, bit, sum}
use Rattle.gf256.specs.FieldLaws.{FieldLaws}

-- ---- doubling

module _ (b : ℕ) where
  low : b < 128 → bit_xor (b * 2 % 256) (b / 128 * 27) ≡ xtime b
  unfolding xtime
  low h =
      let none : b / 128 * 27 ≡ 0 = omega arith in
      let whole : b * 2 % 256 ≡ b * 2 = omega arith in
      rw (none, whole, lt-ltb (b * 2) 256 (omega arith)) (xor_zero_r (b * 2))

  high : 128 ≤ b → b < 256 → bit_xor (b * 2 % 256) (b / 128 * 27) ≡ xtime b
  unfolding xtime
  high h g =
      let one : b / 128 * 27 ≡ 27 = omega arith in
      let split : b * 2 ≡ 1 * 2 ^ 8 + b * 2 % 256 = omega arith in
      rw (one, le-ltb (b * 2) 256 (omega arith))
      (sym (ap (λ (x : ℕ). bit_xor x m) split ∙ xor_block 8 1 1 (b * 2 % 256) 27 (omega arith) (omega arith) ∙ zero-add _))

  -- the term x^8 is the bit shifted out, and 27 what m(x) has below it
  pub xtime_shift : b < 256 → bit_xor (b * 2 % 256) (b / 128 * 27) ≡ xtime b
  xtime_shift g = ⊎_elim (λ h. high (omega arith) g) (λ h. low (omega arith)) (eq-zero-or-pos (128 - b))

-- ---- the product

halving_zero : (n b : ℕ) → halving n 0 b ≡ 0
unfolding halving
halving_zero zero b = refl
halving_zero (suc n) b = refl

-- one halving, of zero too
halving_step : (n a b : ℕ) → halving (suc n) a b ≡ bit_xor (halving n (a / 2) (xtime b)) (a % 2 * b)
unfolding halving
halving_step n zero b = sym (ap₂ bit_xor (halving_zero n (xtime b)) (zero-mul b))
halving_step n (suc a) b = refl

-- once the factor is zero, more halvings change nothing
halving_more : (n a b : ℕ) → a < 2 ^ n → halving n a b ≡ halving (suc n) a b
unfolding halving
halving_more zero zero b h = refl
halving_more zero (suc a) b h = absurd (omega arith)
halving_more (suc n) zero b h = refl
halving_more (suc n) (suc a) b h =
    ap (λ (x : ℕ). bit_xor x (suc a % 2 * b)) (halving_more n (suc a / 2) (xtime b) (omega (arith, pow-suc 2 n)))

-- doubled once more, first or last
pub doubled_last : (j b : ℕ) → xtimes j (xtime b) ≡ xtime (xtimes j b)
unfolding xtimes
doubled_last zero b = refl
doubled_last (suc j) b = doubled_last j (xtime b)

-- the terms of a from x^j on
terms_from : (a b j n : ℕ) → sum (λ k. bit k a * xtimes k b) j n ≡ halving n (a / 2 ^ j) (xtimes j b)
unfolding sum xtimes halving
terms_from a b j zero = refl
terms_from a b j (suc n) =
    ap (λ (r : ℕ). bit_xor r (bit j a * xtimes j b))
    (terms_from a b (suc j) n
    ∙ ap₂ (halving n) (ap (λ (p : ℕ). a / p) (pow-suc 2 j) ∙ sym (div-div-eq-div-mul a (2 ^ j) 2)) (doubled_last j b))
    ∙ sym (halving_step n (a / 2 ^ j) (xtimes j b))

pub field_laws : FieldLaws
unfolding times xtimes
field_laws = record {
  terms = λ a b. sym (terms_from a b 0 8 ∙ ap (λ (q : ℕ). halving 8 q b) (div-one a));
  zero = λ b. halving_zero 8 b;
  halved = λ a b h.
      halving_step 7 a b ∙ ap (λ (x : ℕ). bit_xor x (a % 2 * b)) (halving_more 7 (a / 2) (xtime b) (omega arith));
}

-- a coefficient times b is at most b
pub coefficient_le : (a b : ℕ) → a % 2 * b ≤ b
coefficient_le a b = let d : a % 2 ≤ 1 = omega arith in rw one-mul at (mul-le-mul_right b d)
