-- The constants c2 to c5, and the outputs step by step. Assumes nothing.
use Prim.Native.Nat.{ℕ, ◌/◌, ◌%◌, ◌<◌}
use mathlib.Core.List.{append-nil}
use mathlib.Core.Path.{◌≡◌, refl, sym, ap, ◌∙◌}
use native.Mathlib.Omega.{arith}
use lib.Bits.{bit_xor, xor_zero_r}
use Rattle.octets.specs.Octets.{Octets, digits, encode, xor, turn_left}
use Rattle.aes_words.specs.Words.{columns}
use Rattle.aes_words.proofs.Blocks.{joined, xor_columns}
use Rattle.milenage.specs.Milenage.{constant, out1, out}

constant_columns : (x : ℕ) → x < 256 → columns 0 0 0 x ≡ constant x
unfolding digits constant
constant_columns x h =
    let none : x / 256 ≡ 0 = omega arith in
    let low : x % 256 ≡ x = omega arith in
    rw (none, low)

pub added_constant : (a b c d x : ℕ) → x < 256 → columns a b c (bit_xor d x) ≡ xor (columns a b c d) (constant x)
added_constant a b c d x h =
    sym (joined (bit_xor a 0) (bit_xor b 0) (bit_xor c 0) (bit_xor d x) (unchanged a) (unchanged b) (unchanged c) refl)
    ∙ xor_columns a b c d 0 0 0 x ∙ ap (xor (columns a b c d)) (constant_columns x h)
  where
    unchanged : (y : ℕ) → encode 4 (bit_xor y 0) ≡ encode 4 y
    unchanged y = ap (encode 4) (xor_zero_r y)

-- an output of TEMP, step by step
module _ (E : Octets → Octets) (opc t : Octets) (r c : ℕ) {s u v q : Octets} where
  pub output : s ≡ xor t opc → u ≡ turn_left r s → v ≡ xor u (constant c) → q ≡ xor (E v) opc → q ≡ out E opc r c t
  unfolding out
  output hs hu hv hq =
      hq ∙ ap (λ (x : Octets). xor (E x) opc) (hv ∙ ap (λ (x : Octets). xor x (constant c)) (hu ∙ ap (turn_left r) hs))

-- OUT1 of TEMP and IN1, step by step
module _ (E : Octets → Octets) (opc t i : Octets) {s u v q : Octets} where
  pub output1 : s ≡ xor i opc → u ≡ turn_left 8 s → v ≡ xor t u → q ≡ xor (E v) opc → q ≡ out1 E opc t i
  unfolding out1
  output1 hs hu hv hq = hq ∙ ap (λ (x : Octets). xor (E x) opc) (hv ∙ ap (xor t) (hu ∙ ap (turn_left 8) hs))

-- a turn by nothing
pub unturned : (x : Octets) → turn_left 0 x ≡ x
unfolding turn_left
unturned x = append-nil x
