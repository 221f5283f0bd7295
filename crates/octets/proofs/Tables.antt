-- A table's rule from one computed test: a test of each entry with its place, and what it says of one entry. Assumes nothing.
use Prim.Native.Nat.{ℕ, zero, suc, ◌+◌, ◌<◌}
use mathlib.Core.Bool.{Bool, true, ◌&&◌, and-eq-true_iff}
use mathlib.Core.List.{List, [], ◌∷◌}
use mathlib.Core.Path.{◌≡◌, sym, ap, ◌∙◌}
use native.Mathlib.Nat.{add-zero, zero-add, add-suc, suc-add}
use native.Mathlib.Omega.{arith}
use lib.ListN.{length, get_or}

-- the test passes at each entry and its place, counted from `i`
abbrev pub every : (ℕ → ℕ → Bool) → ℕ → List ℕ → Bool
every test i [] = true
every test i (x ∷ l) = test i x && every test (suc i) l

module _ (test : ℕ → ℕ → Bool) where
  from : (l : List ℕ) (i k : ℕ) → every test i l ≡ true → k < length l → test (i + k) (get_or l k 0) ≡ true
  from [] i k e h = absurd (omega arith)
  from (x ∷ l) i zero e h = ap (λ (j : ℕ). test j x) (add-zero i) ∙ ((and-eq-true_iff (test i x) (every test (suc i) l)).0 e).0
  from (x ∷ l) i (suc k) e h =
      ap (λ (j : ℕ). test j (get_or l k 0)) (add-suc i k ∙ sym (suc-add i k))
      ∙ from l (suc i) k ((and-eq-true_iff (test i x) (every test (suc i) l)).0 e).1 (omega arith)

  pub entry : (l : List ℕ) (k : ℕ) → every test 0 l ≡ true → k < length l → test k (get_or l k 0) ≡ true
  entry l k e h = ap (λ (j : ℕ). test j (get_or l k 0)) (sym (zero-add k)) ∙ from l 0 k e h
