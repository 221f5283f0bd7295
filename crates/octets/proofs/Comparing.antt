-- One turn of comparing two strings, octet by octet, with no early end. Assumes nothing.
use Prim.Native.Nat.{ℕ}
use mathlib.Core.Bool.{Bool, true, false, ◌&&◌, and_assoc, and-true}
use mathlib.Core.List.{[], ◌∷◌}
use Rattle.std.specs.Cmp.Lexicographic.{pointwise}
use mathlib.Core.Path.{◌≡◌, refl, sym, ap, ◌∙◌}
use borrow.Author.Tests.{eqb-true, eqb-false, eq-eqb, ne_eqb}
use lib.Bits.{bit_or, bit_xor, xor_zero_l, xor_self}
use lib.Dec.{eqb}
use Rattle.octets.specs.Octets.{Octets, equal}
use Rattle.octets.proofs.Or.{both_zero}
use Rattle.octets.proofs.XorLaws.{bit_xor-twice}

xor_zero : (a b : ℕ) → bit_xor a b ≡ 0 → a ≡ b
xor_zero a b e = sym (bit_xor-twice a b) ∙ ap (λ (x : ℕ). bit_xor x b) e ∙ xor_zero_l b

-- there is no difference where they are equal
no_difference : (a b : ℕ) → eqb (bit_xor a b) 0 ≡ eqb a b
no_difference a b = go (eqb a b) refl
  where
    go : (p : Bool) → eqb a b ≡ p → eqb (bit_xor a b) 0 ≡ p
    go true e = eq-eqb _ 0 (ap (λ (x : ℕ). bit_xor x b) (eqb-true a b e) ∙ xor_self b)
    go false e = ne_eqb _ 0 (λ z. eqb-false a b e (xor_zero a b z))

-- one turn
pub compare_next : (a b d : ℕ) (x y : Octets) → (eqb d 0 && equal (a ∷ x) (b ∷ y)) ≡ (eqb (bit_or d (bit_xor a b)) 0 && equal x y)
unfolding equal
compare_next a b d x y = rw (both_zero d (bit_xor a b), no_difference a b) (sym (and_assoc (eqb d 0) (eqb a b) (equal x y)))

-- nothing is left of either
pub compare_end : (d : ℕ) {x y : Octets} → (x ≡ []) × (y ≡ []) → (eqb d 0 && equal x y) ≡ eqb d 0
unfolding equal
compare_end d e = rw (e.0, e.1) (and-true (eqb d 0))

-- `==` of two slices is `equal`
pub slices_equal : (x y : Octets) → pointwise eqb x y ≡ equal x y
unfolding equal
slices_equal [] [] = refl
slices_equal [] (b ∷ y) = refl
slices_equal (a ∷ x) [] = refl
slices_equal (a ∷ x) (b ∷ y) = ap (λ (r : Bool). eqb a b && r) (slices_equal x y)
