-- Laws of xor, on numbers and on octet strings. Assumes nothing.
use Prim.Native.Nat.{ℕ, zero, suc, ◌+◌, ◌*◌, ◌/◌, ◌%◌, ◌≤◌, ◌<◌}
use mathlib.Core.List.{[], ◌∷◌, ◌++◌, append-nil}
use mathlib.Core.Path.{◌≡◌, refl, ap, ap₂, ◌∙◌}
use native.Mathlib.Nat.{div-add-mod'}
use native.Mathlib.Numerals.{add-one}
use native.Mathlib.Omega.{arith}
use lib.Arith.{bin_ind}
use lib.Bits.{bit_xor, xor_step, xor_shr, xor_mod, differ, xor_zero_l, xor_zero_r, xor_self}
use lib.ListN.{length, get_or, set, take, drop, drop_of_length-le}
use lib.Seq.{take_all}
use Rattle.octets.specs.Octets.{Octets, zeros, xor}

-- ---- on numbers

-- on a binary digit `bit_xor` is `differ`, and what is added twice is gone
bits : (x y : ℕ) → x < 2 → y < 2 → (bit_xor x y ≡ differ x y) × (differ (differ x y) y ≡ x)
bits zero zero hx hy = (refl, refl)
bits zero (suc zero) hx hy = (refl, refl)
bits (suc zero) zero hx hy = (refl, refl)
bits (suc zero) (suc zero) hx hy = (refl, refl)
bits zero (suc (suc y)) hx hy = absurd (omega arith)
bits (suc zero) (suc (suc y)) hx hy = absurd (omega arith)
bits (suc (suc x)) y hx hy = absurd (omega arith)

pub bit_xor-twice : (a b : ℕ) → bit_xor (bit_xor a b) b ≡ a
bit_xor-twice = bin_ind (λ (a : ℕ). (b : ℕ) → bit_xor (bit_xor a b) b ≡ a) (λ b. rw (xor_zero_l b) (xor_self b)) go
  where
    low : (a b : ℕ) → differ (bit_xor a b % 2) (b % 2) ≡ a % 2
    low a b =
        let digit = bits (a % 2) (b % 2) (omega arith) (omega arith) in
        rw (xor_mod a b 1) (rw digit.0 digit.1)

    go : (a : ℕ) → ((b : ℕ) → bit_xor (bit_xor (a / 2) b) b ≡ a / 2) → (b : ℕ) → bit_xor (bit_xor a b) b ≡ a
    go a ih b =
        xor_step (bit_xor a b) b
        ∙ ap₂ (λ (x y : ℕ). x * 2 + y) (ap (λ (x : ℕ). bit_xor x (b / 2)) (xor_shr a b 1) ∙ ih (b / 2)) (low a b)
        ∙ div-add-mod' a 2

-- ---- on octet strings

pub length_xor : (x y : Octets) → length x ≤ length y → length (xor x y) ≡ length x
unfolding xor
length_xor [] y h = refl
length_xor (a ∷ x) [] h = absurd (omega arith)
length_xor (a ∷ x) (b ∷ y) h = ap suc (length_xor x y (omega arith))

-- zeros change nothing
pub xor_zeros : (x : Octets) (n : ℕ) → length x ≤ n → xor x (zeros n) ≡ x
unfolding xor
xor_zeros [] n h = refl
xor_zeros (a ∷ x) zero h = absurd (omega arith)
xor_zeros (a ∷ x) (suc n) h = ap₂ (λ (c : ℕ) (l : Octets). c ∷ l) (xor_zero_r a) (xor_zeros x n (omega arith))

-- what a string of its length conceals is found again
pub xor_twice : (x y : Octets) → length x ≤ length y → xor (xor x y) y ≡ x
unfolding xor
xor_twice [] y h = refl
xor_twice (a ∷ x) [] h = absurd (omega arith)
xor_twice (a ∷ x) (b ∷ y) h = ap₂ (λ (c : ℕ) (l : Octets). c ∷ l) (bit_xor-twice a b) (xor_twice x y (omega arith))

pub get_d-xor : (x y : Octets) (i : ℕ) → i < length x → i < length y → get_or (xor x y) i 0 ≡ bit_xor (get_or x i 0) (get_or y i 0)
unfolding xor
get_d-xor [] y i h g = absurd (omega arith)
get_d-xor (a ∷ x) [] i h g = absurd (omega arith)
get_d-xor (a ∷ x) (b ∷ y) zero h g = refl
get_d-xor (a ∷ x) (b ∷ y) (suc i) h g = get_d-xor x y i (omega arith) (omega arith)

-- strings joined at the same place
pub xor_append : (x x' y y' : Octets) → length x ≡ length y → xor (x ++ x') (y ++ y') ≡ xor x y ++ xor x' y'
unfolding xor
xor_append [] x' [] y' h = refl
xor_append [] x' (b ∷ y) y' h = absurd (omega arith)
xor_append (a ∷ x) x' [] y' h = absurd (omega arith)
xor_append (a ∷ x) x' (b ∷ y) y' h = ap (λ (l : Octets). bit_xor a b ∷ l) (xor_append x x' y y' (omega arith))

-- ---- a sum that is made in the place of x, octet by octet: those before i are summed, and those from i on are still those of x

unfoldable pub summed : ℕ → Octets → Octets → Octets
summed i x y = xor (take i x) (take i y) ++ drop i x

sum_next : (i : ℕ) (x y : Octets) → i < length x → i < length y
    → set (summed i x y) i (bit_xor (get_or (summed i x y) i 0) (get_or y i 0)) ≡ summed (suc i) x y
unfolding xor summed
sum_next i [] y h g = absurd (omega arith)
sum_next i (a ∷ x) [] h g = absurd (omega arith)
sum_next zero (a ∷ x) (b ∷ y) h g = refl
sum_next (suc i) (a ∷ x) (b ∷ y) h g = ap (λ (l : Octets). bit_xor a b ∷ l) (sum_next i x y (omega arith) (omega arith))

pub summed_next : (i : ℕ) (x y : Octets) {l : Octets} → l ≡ summed i x y → i < length x → i < length y
    → set l i (bit_xor (get_or l i 0) (get_or y i 0)) ≡ summed (i + 1) x y
summed_next i x y e h g = rw (e, add-one i) (sum_next i x y h g)

pub summed_all : (x y : Octets) (n : ℕ) → length x ≡ n → length y ≡ n → summed n x y ≡ xor x y
unfolding summed
summed_all x y n h g =
    rw (take_all n x (omega arith), take_all n y (omega arith), drop_of_length-le x {i = n} (omega arith)) (append-nil (xor x y))

pub summed_none : (x y : Octets) → x ≡ summed 0 x y
unfolding xor summed
summed_none x y = refl
