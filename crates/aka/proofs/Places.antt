-- Laws of the places of a USIM: the highest, the lowest index that holds it, one place replaced. Assumes nothing.
use Prim.Native.Nat.{ℕ, zero, suc, ◌-◌, ◌^◌, ◌≤◌, ◌<◌}
use mathlib.Core.Bool.{Bool, true, false, ◌&&◌, cond, and-eq-true_iff}
use mathlib.Core.List.{List, [], ◌∷◌, ◌++◌}
use mathlib.Core.Logic.{◌↔◌}
use mathlib.Core.Path.{◌≡◌, refl, ◌∙◌, subst}
use native.Mathlib.Nat.{mod-lt}
use native.Mathlib.Omega.{arith}
use borrow.Author.Tests.{eqb-true, eqb-false, leb-true, leb-false, le-leb}
use lib.Dec.{eqb, leb}
use lib.ListN.{length, get_or, set, drop}
use lib.Seq.{drop-set-lt}
use lib.Pow.{pow_pos, le_ones, lt_of_le_ones}
use Rattle.octets.specs.Octets.{Below, zeros}
use Rattle.octets.proofs.Ranges.{below_at}
use Rattle.aka.specs.Sequence.{sqn_bits, FitsSqn, indices, limit, seq_of, ind_of}
use Rattle.aka.specs.Layout.{all_zero}
use Rattle.aka.specs.Usim.{Usim, highest, lowest_index, seq_ms, sqn_ms, all_within}
use Rattle.aka.specs.UsimLaws.{LowestIndex}
use Rattle.aka.proofs.Held.{zero_from}
use Rattle.aka.proofs.Sequence.{seq_sqn, ind_sqn, sqn_seq_ind, sqn_lt}

pub place_le : (l : List ℕ) (i : ℕ) → get_or l i 0 ≤ highest l
unfolding highest
place_le [] i = omega arith
place_le (p ∷ l) zero = omega arith
place_le (p ∷ l) (suc i) = omega (arith, place_le l i)

pub highest_le : (most : ℕ) (l : List ℕ) → ((i : ℕ) → get_or l i 0 ≤ most) → highest l ≤ most
unfolding highest
highest_le most [] h = omega arith
highest_le most (p ∷ l) h = omega (arith, h 0, highest_le most l (λ i. h (suc i)))

pub highest_set : (l : List ℕ) (i x : ℕ) → i < length l → highest l ≤ x → highest (set l i x) ≡ x
unfolding highest
highest_set [] i x h g = absurd (omega arith)
highest_set (p ∷ l) zero x h g = omega arith
highest_set (p ∷ l) (suc i) x h g = omega (arith, highest_set l i x (omega arith) (omega arith))

-- ---- the lowest index

-- i is a place of l that holds x, and no lower one does
pub record Lowest (x : ℕ) (l : List ℕ) (i : ℕ) : Type 0 where
  pub inside : i < length l
  pub holds : get_or l i 0 ≡ x
  pub lowest : (j : ℕ) → j < i → get_or l j 0 ≡ x → ⊥

lowest_next : (x p : ℕ) (l : List ℕ) (i : ℕ) → (p ≡ x → ⊥) → Lowest x l i → Lowest x (p ∷ l) (suc i)
lowest_next x p l i ne h = record {
  inside = omega (arith, h.inside);
  holds = h.holds;
  lowest = before;
}
  where
    before : (j : ℕ) → j < suc i → get_or (p ∷ l) j 0 ≡ x → ⊥
    before zero g e = ne e
    before (suc j) g e = h.lowest j (omega arith) e

-- where some place holds x, `lowest_index` is the lowest that does
pub lowest_index_lem : (x : ℕ) (l : List ℕ) (i : ℕ) → i < length l → get_or l i 0 ≡ x → Lowest x l (lowest_index x l)
unfolding lowest_index
lowest_index_lem x [] i h e = absurd (omega arith)
lowest_index_lem x (p ∷ l) zero h e = go (eqb p x) refl
  where
    go : (b : Bool) → eqb p x ≡ b → Lowest x (p ∷ l) (cond b 0 (suc (lowest_index x l)))
    go true q = record { inside = omega arith; holds = e; lowest = λ j g. absurd (omega arith) }
    go false q = absurd (eqb-false p x q e)
lowest_index_lem x (p ∷ l) (suc i) h e = go (eqb p x) refl (lowest_index_lem x l i (omega arith) e)
  where
    go : (b : Bool) → eqb p x ≡ b → Lowest x l (lowest_index x l) → Lowest x (p ∷ l) (cond b 0 (suc (lowest_index x l)))
    go true q ih = record { inside = omega arith; holds = eqb-true p x q; lowest = λ j g. absurd (omega arith) }
    go false q ih = lowest_next x p l (lowest_index x l) (eqb-false p x q) ih

-- some place holds the highest
pub highest_held : (l : List ℕ) → 0 < length l → (i : ℕ) × (i < length l) × (get_or l i 0 ≡ highest l)
unfolding highest
highest_held [] h = absurd (omega arith)
highest_held (p ∷ []) h = (0, omega arith, omega arith)
highest_held (p ∷ q ∷ l) h = go (leb (highest (q ∷ l)) p) refl (highest_held (q ∷ l) (omega arith))
  where
    go : (b : Bool) → leb (highest (q ∷ l)) p ≡ b
        → (i : ℕ) × (i < length (q ∷ l)) × (get_or (q ∷ l) i 0 ≡ highest (q ∷ l))
        → (i : ℕ) × (i < length (p ∷ q ∷ l)) × (get_or (p ∷ q ∷ l) i 0 ≡ highest (p ∷ q ∷ l))
    go true e ih = (0, omega arith, omega (arith, leb-true (highest (q ∷ l)) p e))
    go false e ih = (suc ih.0, omega (arith, ih.1), ih.2 ∙ omega (arith, leb-false (highest (q ∷ l)) p e))

-- and the lowest that does
pub highest_lowest : (l : List ℕ) → 0 < length l → Lowest (highest l) l (lowest_index (highest l) l)
highest_lowest l h = let held = highest_held l h in lowest_index_lem (highest l) l held.0 held.1 held.2

-- ---- places within a limit

pub within_iff : (most : ℕ) (l : List ℕ) → (all_within most l ≡ true) ↔ ((i : ℕ) → get_or l i 0 ≤ most)
unfolding all_within
within_iff most [] = (λ e i. omega arith, λ h. refl)
within_iff most (p ∷ l) = (from (within_iff most l).0, λ h. rw (le-leb p most (h 0), (within_iff most l).1 (λ i. h (suc i))))
  where
    from : (all_within most l ≡ true → (i : ℕ) → get_or l i 0 ≤ most) → (leb p most && all_within most l) ≡ true
        → (i : ℕ) → get_or (p ∷ l) i 0 ≤ most
    from ih e zero = leb-true p most ((and-eq-true_iff (leb p most) (all_within most l)).0 e).0
    from ih e (suc i) = ih ((and-eq-true_iff (leb p most) (all_within most l)).0 e).1 i

pub zeros_within : (most n : ℕ) → all_within most (zeros n) ≡ true
unfolding all_within
zeros_within most zero = refl
zeros_within most (suc n) = rw (le-leb 0 most (omega arith), zeros_within most n)

pub within_append : (most : ℕ) (a b : List ℕ) → all_within most a ≡ true → all_within most b ≡ true → all_within most (a ++ b) ≡ true
unfolding all_within
within_append most [] b ha hb = hb
within_append most (x ∷ a) b ha hb =
    let both = (and-eq-true_iff (leb x most) (all_within most a)).0 ha in
    rw both.0 (within_append most a b both.1 hb)

-- within the largest number of so many bits, each place is a digit of so many bits
pub within_below : (bits : ℕ) (l : List ℕ) → (all_within (2 ^ bits - 1) l ≡ true) ↔ Below (2 ^ bits) l
within_below bits l = (
  λ e i h. lt_of_le_ones bits ((within_iff (2 ^ bits - 1) l).0 e i),
  λ b. (within_iff (2 ^ bits - 1) l).1 (λ i. le_ones bits (below_at (2 ^ bits) l i (pow_pos bits) b)),
)

pub within : (most : ℕ) (l : List ℕ) → all_within most l ≡ true → highest l ≤ most
within most l e = highest_le most l ((within_iff most l).0 e)

pub within_set : (most : ℕ) (l : List ℕ) (i x : ℕ) → x ≤ most → all_within most l ≡ true → all_within most (set l i x) ≡ true
unfolding all_within
within_set most [] i x h e = e
within_set most (p ∷ l) zero x h e = rw (le-leb x most h) ((and-eq-true_iff (leb p most) (all_within most l)).0 e).1
within_set most (p ∷ l) (suc i) x h e =
    let both = (and-eq-true_iff (leb p most) (all_within most l)).0 e in
    rw both.0 (within_set most l i x h both.1)

-- ---- zeros behind the indices

pub zeros_set : (n : ℕ) (l : List ℕ) (i x : ℕ) → i < n → all_zero (drop n l) ≡ true → all_zero (drop n (set l i x)) ≡ true
zeros_set n l i x h e = rw (drop-set-lt n l i x h) e

-- the lowest index that holds the highest is no place behind: there it would be 0, and index 0 would hold it too
pub lowest_inside : (n : ℕ) (l : List ℕ) → 0 < n → n ≤ length l → all_zero (drop n l) ≡ true → lowest_index (highest l) l < n
lowest_inside n l some long zeros =
    go (lowest_index (highest l) l) (highest_lowest l (omega arith)) (leb n (lowest_index (highest l) l)) refl
  where
    go : (i : ℕ) → Lowest (highest l) l i → (b : Bool) → leb n i ≡ b → i < n
    go i low true e =
        let behind = leb-true n i e in
        absurd (low.lowest 0 (omega arith) (omega (arith, place_le l 0, low.holds, (zero_from n l).0 zeros i behind)))
    go i low false e = omega (arith, leb-false n i e)

-- ---- SQN_MS

-- the places have room for the indices, and those behind are 0
pub sqn_ms_lem : (w : ℕ) (usim : Usim) → indices w ≤ length usim.places → all_zero (drop (indices w) usim.places) ≡ true
    → LowestIndex w usim
sqn_ms_lem w usim long zeros =
    let low = highest_lowest usim.places (omega (arith, long, pow_pos w)) in
    let ind : lowest_index (seq_ms usim) usim.places < indices w = lowest_inside (indices w) usim.places (pow_pos w) long zeros in
    let same = ind_sqn w (seq_ms usim) (lowest_index (seq_ms usim) usim.places) ind in
    record {
      highest = place_le usim.places;
      seq = seq_sqn w (seq_ms usim) (lowest_index (seq_ms usim) usim.places) ind;
      holds = rw same low.holds;
      lowest = λ i h. low.lowest i (rw same at h);
    }

-- it is a number of 48 bits where SEQ_MS is within the limit
pub sqn_ms_fits : (w : ℕ) → w ≤ sqn_bits → (usim : Usim) → indices w ≤ length usim.places
    → all_zero (drop (indices w) usim.places) ≡ true → seq_ms usim ≤ limit w → FitsSqn (sqn_ms w usim)
sqn_ms_fits w hw usim long zeros h =
    let sqn = sqn_ms w usim in
    subst (λ (x : ℕ). FitsSqn x) (sqn_seq_ind w sqn)
    (sqn_lt w hw (seq_of w sqn) (ind_of w sqn) (rw (sqn_ms_lem w usim long zeros).seq h) (mod-lt sqn (pow_pos w)))
