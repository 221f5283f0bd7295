-- The searches and the batch a step at a time, for code that goes by index. Assumes nothing.
use Prim.Native.Nat.{ℕ, suc, ◌+◌, ◌-◌, ◌≤◌, ◌<◌}
use mathlib.Core.Bool.{true, false}
use mathlib.Core.List.{[], ◌++◌}
use mathlib.Core.Path.{◌≡◌, refl}
use native.Mathlib.Omega.{arith}
use Rattle.octets.specs.Octets.{Octets, equal}
use Rattle.aka.specs.Layout.{rand_at, write_vector, joined}
use Rattle.aka.specs.Functions.{Family}
use Rattle.aka.specs.Sequence.{Scheme}
use Rattle.aka.specs.Auc.{Auc, unequal, equal_at, pair_with, pair_from, vector_from, batch_from}
use Rattle.aka.proofs.Layouts.{joined_next}

-- ---- the earliest pair among n RANDs

module _ (rands : Octets) (n i : ℕ) where
  pub with_hit : (j : ℕ) → j < n → equal (rand_at rands i) (rand_at rands j) ≡ true → pair_with rands i j (n - j) ≡ equal_at i j
  unfolding pair_with
  with_hit j h e = let next : n - j ≡ suc (n - (j + 1)) = omega arith in rw (next, e)

  pub with_miss : (j : ℕ) → j < n → equal (rand_at rands i) (rand_at rands j) ≡ false
      → pair_with rands i j (n - j) ≡ pair_with rands i (j + 1) (n - (j + 1))
  unfolding pair_with
  with_miss j h e = let next : n - j ≡ suc (n - (j + 1)) = omega arith in rw (next, e)

  pub with_end : (j : ℕ) → n ≤ j → pair_with rands i j (n - j) ≡ unequal
  unfolding pair_with
  with_end j h = let over : n - j ≡ 0 = omega arith in rw over

  pub from_hit : (j : ℕ) → i < n → pair_with rands i (i + 1) (n - (i + 1)) ≡ equal_at i j → pair_from rands i (n - i) ≡ equal_at i j
  unfolding pair_from
  from_hit j h e = let next : n - i ≡ suc (n - (i + 1)) = omega arith in rw (next, e)

  pub from_miss : i < n → pair_with rands i (i + 1) (n - (i + 1)) ≡ unequal
      → pair_from rands i (n - i) ≡ pair_from rands (i + 1) (n - (i + 1))
  unfolding pair_from
  from_miss h e = let next : n - i ≡ suc (n - (i + 1)) = omega arith in rw (next, e)

  pub from_end : n ≤ i → pair_from rands i (n - i) ≡ unequal
  unfolding pair_from
  from_end h = let over : n - i ≡ 0 = omega arith in rw over

-- ---- a batch, a vector at a time

module _ (scheme : Scheme) (family : Family) (auc : Auc) (from : ℕ) (rands : Octets) where
  pub batch_none : batch_from scheme family auc from rands 0 ≡ []
  unfolding batch_from joined
  batch_none = refl

  pub batch_next : (k : ℕ)
      → batch_from scheme family auc from rands (k + 1)
      ≡ batch_from scheme family auc from rands k ++ write_vector (vector_from scheme family auc from rands k)
  unfolding batch_from
  batch_next k = joined_next (λ j. write_vector (vector_from scheme family auc from rands j)) k
