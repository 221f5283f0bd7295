-- Laws of parts of octet strings, and of strings that differ. Assumes nothing.
use Prim.Native.Nat.{ℕ, ◌+◌, ◌≤◌, ◌<◌}
use mathlib.Core.Bool.{Bool, true, false, true≢false}
use mathlib.Core.List.{List, ◌∷◌, ◌++◌}
use mathlib.Core.Path.{◌≡◌, refl, sym, ◌∙◌}
use native.Mathlib.Numerals.{add-one}
use native.Mathlib.Omega.{arith}
use lib.ListN.{length, get_or, drop, length-take, length-drop}
use lib.Seq.{drop-cons, take_all, take_at, drop_at, drop-drop, take-add}
use Rattle.octets.specs.Octets.{Octets, part, equal}
use Rattle.octets.proofs.Strings.{equal_true, equal_self}

-- ---- what is left of a list from a place on

pub drop_next : (l : List ℕ) (i : ℕ) → i < length l → drop i l ≡ get_or l i 0 ∷ drop (i + 1) l
drop_next l i h = rw (add-one i) (drop-cons l i 0 h)

-- ---- parts of two strings, one behind the other

pub front : (a b : Octets) (n : ℕ) → length a ≡ n → part 0 n (a ++ b) ≡ a
front a b n h = take_at a b n h

pub past : (a b : Octets) (n m size : ℕ) → length a ≡ n → part (n + m) size (a ++ b) ≡ part m size b
past a b n m size h = rw (← drop-drop m n (a ++ b), drop_at a b n h)

pub whole : (a : Octets) (n : ℕ) → length a ≡ n → part 0 n a ≡ a
whole a n h = take_all n a (omega arith)

-- two parts that meet
pub meet : (start n m : ℕ) (x : Octets) → part start n x ++ part (start + n) m x ≡ part start (n + m) x
meet start n m x = rw (← drop-drop n start x) (sym (take-add n m (drop start x)))

pub length_part : (start n : ℕ) (x : Octets) → start + n ≤ length x → length (part start n x) ≡ n
length_part start n x h = simp (length-take, length-drop) (omega arith)

-- ---- equality

pub unequal_false : (x y : Octets) → (x ≡ y → ⊥) → equal x y ≡ false
unequal_false x y h = go (equal x y) refl
  where
    go : (b : Bool) → equal x y ≡ b → b ≡ false
    go true e = absurd (h (equal_true x y e))
    go false e = refl

pub false_unequal : (x y : Octets) → equal x y ≡ false → x ≡ y → ⊥
false_unequal x y e same = true≢false (sym (equal_self y) ∙ rw same at e)
