-- The search for equal RANDs finds the earliest pair. Assumes nothing.
use Prim.Native.Nat.{ℕ, zero, suc, ◌+◌, ◌≤◌, ◌<◌}
use mathlib.Core.Bool.{Bool, true, false, cond}
use mathlib.Core.Logic.{◌⊎◌, inl, inr, ⊎_elim}
use mathlib.Core.Path.{◌≡◌, refl, sym, ap, ◌∙◌}
use native.Mathlib.Nat.{eq-or-lt_of_le}
use native.Mathlib.Omega.{arith}
use borrow.Author.Tests.{ltb-true, ltb-false}
use lib.Dec.{ltb}
use Rattle.octets.specs.Octets.{Octets, equal}
use Rattle.octets.proofs.Absurd.{zero_not_one}
use Rattle.octets.proofs.Strings.{equal_true}
use Rattle.aka.specs.Layout.{rand_at}
use Rattle.aka.specs.Auc.{Pair, unequal, equal_at, or_else, pair_with, pair_from, equal_pair}
use Rattle.aka.specs.AucLaws.{Earliest}
use Rattle.octets.proofs.Parts.{false_unequal}

first_of : {a b i j : ℕ} → equal_at a b ≡ equal_at i j → a ≡ i
first_of e = cc

second_of : {a b i j : ℕ} → equal_at a b ≡ equal_at i j → b ≡ j
second_of e = cc

no_pair : {i j : ℕ} → unequal ≡ equal_at i j → ⊥
no_pair e = zero_not_one (cc)

not_before : (j b : ℕ) → (j < b → ⊥) → b ≤ j
not_before j b h = go (ltb j b) refl
  where
    go : (t : Bool) → ltb j b ≡ t → b ≤ j
    go true e = absurd (h (ltb-true j b e))
    go false e = ltb-false j b e

module _ (rands : Octets) where
  abbrev Same : ℕ → ℕ → Type 0
  Same i j = rand_at rands i ≡ rand_at rands j

  -- ---- a second place for i

  with_unequal : (i j left : ℕ) → pair_with rands i j left ≡ unequal → (k : ℕ) → j ≤ k → k < j + left → Same i k → ⊥
  unfolding pair_with
  with_unequal i j zero e k h g s = omega arith
  with_unequal i j (suc left) e k h g s = go (equal (rand_at rands i) (rand_at rands j)) refl e (with_unequal i (j + 1) left)
    where
      go : (b : Bool) → equal (rand_at rands i) (rand_at rands j) ≡ b → cond b (equal_at i j) (pair_with rands i (j + 1) left) ≡ unequal
          → (pair_with rands i (j + 1) left ≡ unequal → (k : ℕ) → j + 1 ≤ k → k < j + 1 + left → Same i k → ⊥) → ⊥
      go true t q ih = no_pair (sym q)
      go false t q ih = ⊎_elim
          (λ (here : j ≡ k). false_unequal (rand_at rands i) (rand_at rands j) t (s ∙ ap (rand_at rands) (sym here)))
          (λ (later : j < k). ih q k (omega arith) (omega arith) s)
          (eq-or-lt_of_le h)

  record With (i j left a b : ℕ) : Type 0 where
    pub first : a ≡ i
    pub low : j ≤ b
    pub high : b < j + left
    pub same : Same i b
    pub none : (k : ℕ) → j ≤ k → k < b → Same i k → ⊥

  with_equal : (i j left a b : ℕ) → pair_with rands i j left ≡ equal_at a b → With i j left a b
  unfolding pair_with
  with_equal i j zero a b e = absurd (no_pair e)
  with_equal i j (suc left) a b e = go (equal (rand_at rands i) (rand_at rands j)) refl e (with_equal i (j + 1) left a b)
    where
      go : (t : Bool) → equal (rand_at rands i) (rand_at rands j) ≡ t
          → cond t (equal_at i j) (pair_with rands i (j + 1) left) ≡ equal_at a b
          → (pair_with rands i (j + 1) left ≡ equal_at a b → With i (j + 1) left a b) → With i j (suc left) a b
      go true t q ih =
          let at : j ≡ b = second_of q in
          record {
            first = sym (first_of q);
            low = omega arith;
            high = omega arith;
            same = equal_true (rand_at rands i) (rand_at rands j) t ∙ ap (rand_at rands) at;
            none = λ k h g. absurd (omega arith);
          }
      go false t q ih =
          let found = ih q in
          record {
            first = found.first;
            low = omega (arith, found.low);
            high = omega (arith, found.high);
            same = found.same;
            none = λ k h g s. ⊎_elim
                (λ (here : j ≡ k). false_unequal (rand_at rands i) (rand_at rands j) t (s ∙ ap (rand_at rands) (sym here)))
                (λ (later : j < k). found.none k (omega arith) g s)
                (eq-or-lt_of_le h);
          }

  -- ---- a first place from i on

  abbrev First : (i end a b : ℕ) → Type 0
  First i end a b = (i' j' : ℕ) → i ≤ i' → i' < j' → j' < end → Same i' j' → (a < i') ⊎ ((a ≡ i') × (b ≤ j'))

  record From (i end a b : ℕ) : Type 0 where
    pub order : a < b
    pub inside : b < end
    pub same : Same a b
    pub least : First i end a b

  from_equal : (i left a b : ℕ) → pair_from rands i left ≡ equal_at a b → From i (i + left) a b
  unfolding pair_from
  from_equal i zero a b e = absurd (no_pair e)
  from_equal i (suc left) a b e = go (pair_with rands i (i + 1) left) refl e (from_equal (i + 1) left a b)
    where
      go : (p : Pair) → pair_with rands i (i + 1) left ≡ p → or_else p (pair_from rands (i + 1) left) ≡ equal_at a b
          → (pair_from rands (i + 1) left ≡ equal_at a b → From (i + 1) (i + 1 + left) a b) → From i (i + suc left) a b
      go (equal_at c d) w q ih =
          let found : With i (i + 1) left a b = with_equal i (i + 1) left a b (w ∙ q) in
          record {
            order = omega (arith, found.first, found.low);
            inside = omega (arith, found.high);
            same = ap (rand_at rands) found.first ∙ found.same;
            least = λ i' j' h g l s. ⊎_elim
                (λ (here : i ≡ i'). inr (
                  found.first ∙ here,
                  not_before j' b (λ before. found.none j' (omega arith) before (ap (rand_at rands) here ∙ s)),
                ))
                (λ (later : i < i'). inl (omega (arith, found.first)))
                (eq-or-lt_of_le h);
          }
      go unequal w q ih =
          let found = ih q in
          record {
            order = found.order;
            inside = omega (arith, found.inside);
            same = found.same;
            least = λ i' j' h g l s. ⊎_elim
                (λ (here : i ≡ i'). absurd (with_unequal i (i + 1) left w j' (omega arith) (omega arith) (ap (rand_at rands) here ∙ s)))
                (λ (later : i < i'). found.least i' j' (omega arith) g (omega arith) s)
                (eq-or-lt_of_le h);
          }

  from_unequal : (i left : ℕ) → pair_from rands i left ≡ unequal → (i' j' : ℕ) → i ≤ i' → i' < j' → j' < i + left → Same i' j' → ⊥
  unfolding pair_from
  from_unequal i zero e i' j' h g l s = omega arith
  from_unequal i (suc left) e i' j' h g l s = go (pair_with rands i (i + 1) left) refl e (from_unequal (i + 1) left)
    where
      go : (p : Pair) → pair_with rands i (i + 1) left ≡ p → or_else p (pair_from rands (i + 1) left) ≡ unequal
          → (pair_from rands (i + 1) left ≡ unequal → (i' j' : ℕ) → i + 1 ≤ i' → i' < j' → j' < i + 1 + left → Same i' j' → ⊥) → ⊥
      go (equal_at a b) w q ih = no_pair (sym q)
      go unequal w q ih = ⊎_elim
          (λ (here : i ≡ i'). with_unequal i (i + 1) left w j' (omega arith) (omega arith) (ap (rand_at rands) here ∙ s))
          (λ (later : i < i'). ih q i' j' (omega arith) g (omega arith) s)
          (eq-or-lt_of_le h)

  pub earliest : (n i j : ℕ) → equal_pair rands n ≡ equal_at i j → Earliest rands n i j
  earliest n i j e =
      let found = from_equal 0 n i j e in
      record {
        order = found.order;
        inside = omega (arith, found.inside);
        equal = found.same;
        first = λ i' j' g l s. found.least i' j' (omega arith) g (omega arith) s;
      }

  pub all_unequal : (n : ℕ) → equal_pair rands n ≡ unequal → (i j : ℕ) → i < j → j < n → Same i j → ⊥
  all_unequal n e i j h g s = from_unequal 0 n e i j (omega arith) h (omega arith) s
