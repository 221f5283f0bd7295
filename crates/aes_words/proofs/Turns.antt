-- Words as four octets: turning, and the octets by shifts. Assumes nothing.
use Prim.Native.Nat.{ℕ, zero, suc, ◌+◌, ◌*◌, ◌/◌, ◌%◌, ◌^◌, ◌<◌}
use mathlib.Core.List.{◌++◌, append-nil}
use mathlib.Core.Path.{◌≡◌, sym, ap, ap₂, ◌∙◌}
use native.Mathlib.Omega.{arith}
use lib.Arith.{digits_div}
use lib.Bits.{bit_or, or_self, or_shifted}
use lib.ListN.{length}
use lib.Pow.{shr-shr}
use Rattle.std.specs.Int.{w32, rotate_left}
use lib.Seq.{take_at, drop_at}
use Rattle.octets.specs.Octets.{Octets, turn_left, digits, encode}
use Rattle.octets.proofs.Numbers.{length_digits, digits_split, digits_low}

-- the octets by shifts
pub shifted2 : (x : ℕ) → x / 0x10000 ≡ x / 256 / 256
shifted2 x = sym (shr-shr x 8 8)

pub shifted3 : (x : ℕ) → x / 0x1000000 ≡ x / 256 / 256 / 256
shifted3 x = sym (ap (λ (y : ℕ). y / 256) (shr-shr x 8 8) ∙ shr-shr x 16 8)

-- A word of i and j octets, turned left by the first i: what they were comes last.
module _ (i j x : ℕ) (h : x / 256 ^ j < 256 ^ i) where
  front : length (digits 256 i (x / 256 ^ j)) ≡ i
  front = length_digits 256 i (x / 256 ^ j)

  moved : encode (j + i) (x * 256 ^ i + x / 256 ^ j) ≡ turn_left i (encode (i + j) x)
  unfolding turn_left
  moved =
      digits_split 256 j i (x * 256 ^ i + x / 256 ^ j)
      ∙ ap₂ (λ (l r : Octets). l ++ r) (ap (digits 256 j) (digits_div x h)) (digits_low 256 i x (x / 256 ^ j) (omega arith))
      ∙ rw (
        digits_split 256 i j x,
        take_at (digits 256 i (x / 256 ^ j)) (digits 256 j x) i front,
        drop_at (digits 256 i (x / 256 ^ j)) (digits 256 j x) i front,
      )

  -- where the word r is that number less what is shifted out
  pub turned : (q r : ℕ) → q * 256 ^ (j + i) + r ≡ x * 256 ^ i + x / 256 ^ j → encode (j + i) r ≡ turn_left i (encode (i + j) x)
  turned q r e = sym (digits_low 256 (j + i) q r (omega arith)) ∙ ap (encode (j + i)) e ∙ moved

-- what the library's turn of a word by 8 bits an octet gives
pub rotated : (n x : ℕ) {r : ℕ} → n < 4 → x < 2 ^ 32 → r ≡ rotate_left w32 x (8 * n) → encode 4 r ≡ turn_left n (encode 4 x)
unfolding turn_left
rotated zero x small fits e =
    let low : x * 1 % 0x100000000 ≡ x = omega arith in
    let high : x / 1 ≡ x = omega arith in
    ap (encode 4) (e ∙ ap₂ bit_or low high ∙ or_self x) ∙ sym (append-nil (encode 4 x))
rotated (suc zero) x small fits e =
    let low : x * 0x100 % 0x100000000 ≡ x % 0x1000000 * 0x100 = omega arith in
    let sum = e ∙ ap (λ (y : ℕ). bit_or y (x / 0x1000000)) low ∙ or_shifted (x % 0x1000000) 8 (x / 0x1000000) (omega arith) in
    turned 1 3 x (omega arith) (x * 0x100 / 0x100000000) _ (omega arith)
rotated (suc (suc zero)) x small fits e =
    let low : x * 0x10000 % 0x100000000 ≡ x % 0x10000 * 0x10000 = omega arith in
    let sum = e ∙ ap (λ (y : ℕ). bit_or y (x / 0x10000)) low ∙ or_shifted (x % 0x10000) 16 (x / 0x10000) (omega arith) in
    turned 2 2 x (omega arith) (x * 0x10000 / 0x100000000) _ (omega arith)
rotated (suc (suc (suc zero))) x small fits e =
    let low : x * 0x1000000 % 0x100000000 ≡ x % 0x100 * 0x1000000 = omega arith in
    let sum = e ∙ ap (λ (y : ℕ). bit_or y (x / 0x100)) low ∙ or_shifted (x % 0x100) 24 (x / 0x100) (omega arith) in
    turned 3 1 x (omega arith) (x * 0x1000000 / 0x100000000) _ (omega arith)
rotated (suc (suc (suc (suc n)))) x small fits e = absurd (omega arith)
