-- Laws for code that goes through a list by index, or copies one list over another. Assumes nothing.
use Prim.Native.Nat.{ℕ, zero, suc, ◌+◌, ◌<◌, ◌≤◌, min}
use mathlib.Core.Bool.{Bool, false, true}
use mathlib.Core.List.{List, [], ◌∷◌, append-nil}
use mathlib.Core.Logic.{◌⊎◌, inl, inr}
use mathlib.Core.Path.{◌≡◌, ap, refl}
use native.Mathlib.Nat.{min-zero, suc-min-suc, zero-add, zero-min}
use native.Mathlib.Numerals.{add-one}
use native.Mathlib.Omega.{arith}
use borrow.Author.Tests.{ltb-false, ltb-true}
use lib.Dec.{ltb}
use lib.ListN.{drop, drop_of_length-le, get_or, length, set, take}
use lib.Seq.{paste, paste-suc, take_all}

-- a number is below another, or not
pub order : (m n : ℕ) → (m < n) ⊎ (n ≤ m)
order m n = go (ltb m n) refl
  where
    go : (b : Bool) → ltb m n ≡ b → (m < n) ⊎ (n ≤ m)
    go true e = inl (ltb-true m n e)
    go false e = inr (ltb-false m n e)

-- a store of the next element is a copy of one more
pub paste_next : (d : List ℕ) (at : ℕ) (s : List ℕ) (j : ℕ) {l : List ℕ} {k v : ℕ} → l ≡ paste d at s j → k ≡ at + j → v ≡ get_or s j 0
    → at + j < length d → j < length s → set l k v ≡ paste d at s (j + 1)
paste_next d at s j {l} {k} {v} is place element inside more = rw (is, place, element, add-one j) (paste-suc d at s j 0 inside more)

-- a copy over all of a list that is as long
pub paste_all : (d s : List ℕ) (n : ℕ) → length s ≡ n → length d ≡ n → paste d 0 s n ≡ s
paste_all d s n p q = rw (zero-add n, take_all n s (omega arith), drop_of_length-le d {i = n} (omega arith)) (append-nil s)

-- past its end a list has nothing more
pub take_min : (n : ℕ) (l : List ℕ) → take (min n (length l)) l ≡ take n l
take_min zero l = rw zero-min
take_min (suc n) [] = rw min-zero
take_min (suc n) (x ∷ l) = rw suc-min-suc (ap (λ (r : List ℕ). x ∷ r) (take_min n l))

pub drop_min : (n : ℕ) (l : List ℕ) → drop (min n (length l)) l ≡ drop n l
drop_min zero l = rw zero-min
drop_min (suc n) [] = rw min-zero
drop_min (suc n) (x ∷ l) = rw suc-min-suc (drop_min n l)
