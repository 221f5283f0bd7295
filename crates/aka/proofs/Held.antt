-- Laws of the octets that a VLR holds: zeros, and places before, at and behind a seam. Assumes nothing.
use Prim.Native.Nat.{ℕ, zero, suc, ◌+◌, ◌-◌, ◌≤◌}
use mathlib.Core.Bool.{true, and-eq-true_iff}
use mathlib.Core.List.{[], ◌∷◌, ◌++◌}
use mathlib.Core.Logic.{◌↔◌}
use mathlib.Core.Path.{◌≡◌, refl, sym, ap, ap₂, ◌∙◌}
use native.Mathlib.Omega.{arith}
use borrow.Author.Tests.{eqb-true, eq-eqb}
use lib.Dec.{eqb}
use lib.ListN.{length, get_or, take, drop, length-take, length-drop, length-append, length-replicate, take-append-drop}
use lib.Seq.{take-append-le, drop-append-le, drop-drop, get_or-drop, drop_at}
use Rattle.octets.specs.Octets.{Octets, zeros, part}
use Rattle.octets.proofs.Parts.{past}
use Rattle.aka.specs.Vlr.{all_zero}

-- ---- zeros

pub all_zeros : (n : ℕ) → all_zero (zeros n) ≡ true
unfolding all_zero
all_zeros zero = refl
all_zeros (suc n) = all_zeros n

pub length_zeros : (n : ℕ) → length (zeros n) ≡ n
length_zeros n = length-replicate {A = ℕ} n 0

pub zeros_are : (a : Octets) → all_zero a ≡ true → a ≡ zeros (length a)
unfolding all_zero
zeros_are [] h = refl
zeros_are (x ∷ a) h =
    let both = (and-eq-true_iff (eqb x 0) (all_zero a)).0 h in
    ap₂ (λ (y : ℕ) (l : Octets). y ∷ l) (eqb-true x 0 both.0) (zeros_are a both.1)

pub zero_append : (a b : Octets) → all_zero a ≡ true → all_zero b ≡ true → all_zero (a ++ b) ≡ true
unfolding all_zero
zero_append [] b ha hb = hb
zero_append (x ∷ a) b ha hb =
    let both = (and-eq-true_iff (eqb x 0) (all_zero a)).0 ha in
    rw both.0 (zero_append a b both.1 hb)

pub zero_drop : (n : ℕ) (a : Octets) → all_zero a ≡ true → all_zero (drop n a) ≡ true
unfolding all_zero
zero_drop zero a h = h
zero_drop (suc n) [] h = h
zero_drop (suc n) (x ∷ a) h = zero_drop n a ((and-eq-true_iff (eqb x 0) (all_zero a)).0 h).1

pub drop_zeros : (n m : ℕ) → drop n (zeros m) ≡ zeros (m - n)
drop_zeros n m =
    zeros_are (drop n (zeros m)) (zero_drop n (zeros m) (all_zeros m))
    ∙ ap zeros (length-drop n (zeros m) ∙ ap (λ (k : ℕ). k - n) (length_zeros m))

pub zero_each : (a : Octets) → all_zero a ≡ true → (i : ℕ) → get_or a i 0 ≡ 0
unfolding all_zero
zero_each [] h i = refl
zero_each (x ∷ a) h zero = eqb-true x 0 ((and-eq-true_iff (eqb x 0) (all_zero a)).0 h).0
zero_each (x ∷ a) h (suc i) = zero_each a ((and-eq-true_iff (eqb x 0) (all_zero a)).0 h).1 i

pub each_zero : (a : Octets) → ((i : ℕ) → get_or a i 0 ≡ 0) → all_zero a ≡ true
unfolding all_zero
each_zero [] h = refl
each_zero (x ∷ a) h = rw (eq-eqb x 0 (h 0)) (each_zero a (λ i. h (suc i)))

-- from a place on
pub zero_from : (n : ℕ) (a : Octets) → (all_zero (drop n a) ≡ true) ↔ ((i : ℕ) → n ≤ i → get_or a i 0 ≡ 0)
zero_from n a = (
  λ h i le.
      let at : n + (i - n) ≡ i = omega arith in
      ap (λ (j : ℕ). get_or a j 0) (sym at) ∙ sym (get_or-drop n a (i - n) 0) ∙ zero_each (drop n a) h (i - n),
  λ h. each_zero (drop n a) (λ i. get_or-drop n a i 0 ∙ h (n + i) (omega arith)),
)

-- ---- parts at a seam

pub part_before : (start size : ℕ) (a b : Octets) → start + size ≤ length a → part start size (a ++ b) ≡ part start size a
part_before start size a b h =
    rw (drop-append-le start a b (omega arith))
    (take-append-le size (drop start a) b (rw (length-drop start a) (omega arith)))

pub part_take : (start size n : ℕ) (a : Octets) → start + size ≤ n → n ≤ length a → part start size (take n a) ≡ part start size a
part_take start size n a h le =
    let fits : start + size ≤ length (take n a) = simp length-take (omega arith) in
    sym (part_before start size (take n a) (drop n a) fits) ∙ ap (part start size) (take-append-drop n a)

-- a batch written behind the octets before `n`
abbrev pub written : (n : ℕ) (batch queue : Octets) → Octets
written n batch queue = take n queue ++ batch ++ drop (n + length batch) queue

module _ (n : ℕ) (batch queue : Octets) (room : n + length batch ≤ length queue) where
  pub length_front : length (take n queue) ≡ n
  length_front = simp length-take (omega arith)

  pub length_head : length (take n queue ++ batch) ≡ n + length batch
  length_head = length-append (take n queue) batch ∙ ap (λ (k : ℕ). k + length batch) length_front

  pub length_written : length (written n batch queue) ≡ length queue
  length_written =
      length-append (take n queue ++ batch) (drop (n + length batch) queue)
      ∙ rw (length_head, length-drop (n + length batch) queue) (omega arith)

  pub written_before : (start size : ℕ) → start + size ≤ n → part start size (written n batch queue) ≡ part start size queue
  written_before start size h =
      part_before start size (take n queue ++ batch) (drop (n + length batch) queue) (rw length_head (omega arith))
      ∙ part_before start size (take n queue) batch (rw length_front (omega arith))
      ∙ part_take start size n queue h (omega arith)

  pub written_behind : (start size : ℕ) → start + size ≤ length batch
      → part (n + start) size (written n batch queue) ≡ part start size batch
  written_behind start size h =
      part_before (n + start) size (take n queue ++ batch) (drop (n + length batch) queue) (rw length_head (omega arith))
      ∙ past (take n queue) batch n start size length_front

  pub written_rest : drop (n + length batch) (written n batch queue) ≡ drop (n + length batch) queue
  written_rest = drop_at (take n queue ++ batch) (drop (n + length batch) queue) (n + length batch) length_head

  -- what was zero behind `n` is zero behind the batch
  pub written_zero : all_zero (drop n queue) ≡ true → all_zero (drop (n + length batch) (written n batch queue)) ≡ true
  written_zero h = rw (written_rest, ← drop-drop (length batch) n queue) (zero_drop (length batch) (drop n queue) h)
