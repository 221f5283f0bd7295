-- Laws of equality, turning, parts and zeros. Assumes nothing.
use Prim.Native.Nat.{ℕ, zero, suc, ◌+◌, ◌-◌, ◌≤◌}
use mathlib.Core.Bool.{true, true≢false, and-eq-true_iff}
use mathlib.Core.List.{[], ◌∷◌}
use mathlib.Core.Path.{◌≡◌, refl, sym, ap, ap₂, ◌∙◌}
use native.Mathlib.Omega.{arith}
use borrow.Author.Tests.{eqb-true, eq-eqb}
use lib.Dec.{eqb}
use lib.ListN.{length, get_or, drop, length-append, length-take, length-drop}
use lib.Seq.{drop-cons, take_all}
use Rattle.octets.specs.Octets.{Octets, zeros, part, equal, turn_left}

pub equal_self : (x : Octets) → equal x x ≡ true
unfolding equal
equal_self [] = refl
equal_self (a ∷ x) = rw (eq-eqb a a refl, equal_self x)

pub equal_true : (x y : Octets) → equal x y ≡ true → x ≡ y
unfolding equal
equal_true [] [] e = refl
equal_true [] (b ∷ y) e = absurd (true≢false (sym e))
equal_true (a ∷ x) [] e = absurd (true≢false (sym e))
equal_true (a ∷ x) (b ∷ y) e =
    let both : (eqb a b ≡ true) × (equal x y ≡ true) = (and-eq-true_iff (eqb a b) (equal x y)).0 e in
    ap₂ (λ (c : ℕ) (l : Octets). c ∷ l) (eqb-true a b both.0) (equal_true x y both.1)

pub length-turn_left : (n : ℕ) (x : Octets) → length (turn_left n x) ≡ length x
unfolding turn_left
length-turn_left n x = simp (length-append, length-drop, length-take) (omega arith)

-- ---- a string by its octets

-- the octets at `start` and the n - 1 places behind it
abbrev pub listed : Octets → ℕ → ℕ → Octets
listed x start zero = []
listed x start (suc n) = get_or x start 0 ∷ listed x (suc start) n

pub listed_part : (x : Octets) (start n : ℕ) → start + n ≤ length x → listed x start n ≡ part start n x
listed_part x start zero h = refl
listed_part x start (suc n) h =
    rw (drop-cons x start 0 (omega arith)) (ap (λ (l : Octets). get_or x start 0 ∷ l) (listed_part x (suc start) n (omega arith)))

pub listed_all : (x : Octets) (n : ℕ) → length x ≡ n → listed x 0 n ≡ x
listed_all x n h = listed_part x 0 n (omega arith) ∙ take_all n x (omega arith)

pub drop_zeros : (n m : ℕ) → drop m (zeros n) ≡ zeros (n - m)
drop_zeros n zero = let e : n ≡ n - 0 = omega arith in rw (← e)
drop_zeros zero (suc m) = let e : 0 - suc m ≡ 0 = omega arith in rw e
drop_zeros (suc n) (suc m) = let e : suc n - suc m ≡ n - m = omega arith in rw e (drop_zeros n m)
