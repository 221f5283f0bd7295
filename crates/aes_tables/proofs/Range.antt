-- The S-box's values are octets. Assumes nothing.
use Prim.Native.Nat.{ℕ, ◌<◌}
use mathlib.Core.List.{[], ◌∷◌}
use native.Mathlib.Omega.{arith}
use Rattle.octets.proofs.Numbers.{number_lt}
use Rattle.octets.proofs.Ranges.{below_map}
use Rattle.aes_tables.specs.Sbox.{inverse, affine_bit, affine, sbox}

bit_lt : (b i : ℕ) → affine_bit b i < 2
unfolding affine_bit
bit_lt b i = omega arith

affine_lt : (b : ℕ) → affine b < 256
unfolding affine
affine_lt b = number_lt 2 _ (below_map 2 (affine_bit b) (7 ∷ 6 ∷ 5 ∷ 4 ∷ 3 ∷ 2 ∷ 1 ∷ 0 ∷ []) (bit_lt b))

pub sbox_lt : (x : ℕ) → sbox x < 256
unfolding sbox
sbox_lt x = affine_lt (inverse x)
