-- Laws of the AuC's answers to an order and to a resynchronisation. Assumes nothing.
use Prim.Native.Nat.{ℕ, ◌+◌, ◌*◌, ◌≤◌, ◌<◌}
use mathlib.Core.Bool.{Bool, true, false, ◌&&◌, ◌||◌, not, cond, and-eq-true_iff}
use mathlib.Core.Logic.{◌↔◌}
use mathlib.Core.Path.{◌≡◌, refl, sym, ◌∙◌}
use native.Mathlib.Omega.{arith}
use borrow.Author.Tests.{eqb-true, eq-eqb, leb-true, le-leb, le-ltb, lt-ltb, ltb-true, ltb-false}
use lib.Dec.{eqb, ltb, leb}
use lib.ListN.{length}
use Rattle.octets.specs.Octets.{Octets}
use Rattle.aka.specs.Layout.{rand_size, auts_size, vector_size, most_vectors}
use Rattle.aka.specs.Functions.{Functions, Family}
use Rattle.aka.specs.Sequence.{D, Scheme, width_of, indices, limit}
use Rattle.aka.specs.AucLaws.{Range}
use Rattle.aka.specs.Auc.{Auc, AucAnswer, Pair, unequal, equal_at, Outcome, given, kept, reset, refused, repeated, refusal_of}
use Rattle.aka.specs.Auc.{valid_auc, order_count, resync_count, equal_pair, lent_for, lent_auts, in_range, kept_or_reset}
use Rattle.aka.specs.Auc.{mac_s_right, seq_ms_in}
use Rattle.aka.specs.Auc.{unless_repeated, unless_refused, unless_past, given_with, refused_with, answer_with, order_outcome, order}
use Rattle.aka.specs.Auc.{resync_from, auts_outcome, resync_outcome, resync}

-- ---- the SEQ that a batch follows

pub in_range_iff : (he ms n : ℕ) → (in_range he ms n ≡ true) ↔ Range he ms n
unfolding in_range
in_range_iff he ms n = (
  λ e.
      let both = (and-eq-true_iff (leb ms he) (leb (he + n) (ms + D))).0 e in
      (leb-true ms he both.0, leb-true (he + n) (ms + D) both.1),
  λ h. rw (le-leb ms he h.0, le-leb (he + n) (ms + D) h.1),
)

-- kept or reset, the batch's numbers begin above SEQ_MS and end within D and the limit
pub from_bounds : (he ms n most : ℕ) → n ≤ D → ms + n ≤ most → he + n ≤ most
    → (ms ≤ kept_or_reset he ms n) × (kept_or_reset he ms n + n ≤ ms + D) × (kept_or_reset he ms n + n ≤ most)
from_bounds he ms n most hn hm hh = go (in_range he ms n) refl
  where
    go : (b : Bool) → in_range he ms n ≡ b → (ms ≤ cond b he ms) × (cond b he ms + n ≤ ms + D) × (cond b he ms + n ≤ most)
    go true e = let both = (in_range_iff he ms n).0 e in (both.0, both.1, hh)
    go false e = (omega arith, omega arith, hm)

-- ---- the lengths of lent parts

both_iff : (a b c d : ℕ) → ((eqb a b && eqb c d) ≡ true) ↔ ((a ≡ b) × (c ≡ d))
both_iff a b c d = (
  λ e. let both = (and-eq-true_iff (eqb a b) (eqb c d)).0 e in (eqb-true a b both.0, eqb-true c d both.1),
  λ h. rw (eq-eqb a b h.0, eq-eqb c d h.1),
)

pub lent_iff : (n rands buffer : ℕ) → (lent_for n rands buffer ≡ true) ↔ ((rands ≡ rand_size * n) × (buffer ≡ vector_size * n))
unfolding lent_for
lent_iff n rands buffer = both_iff rands (rand_size * n) buffer (vector_size * n)

pub lent_auts_iff : (rand auts : ℕ) → (lent_auts rand auts ≡ true) ↔ ((rand ≡ rand_size) × (auts ≡ auts_size))
unfolding lent_auts
lent_auts_iff rand auts = both_iff rand rand_size auts auts_size

-- ---- the answer that goes with an outcome

module _ (scheme : Scheme) (family : Family) (auc : Auc) (from : ℕ) (rands : Octets) (n : ℕ) (buffer : Octets) where
  abbrev answered : Outcome → AucAnswer
  answered o = answer_with scheme family auc from rands n buffer o

  pub answer_given : (o : Outcome) → refusal_of o ≡ 0 → answered o ≡ given_with scheme family auc from rands n o
  unfolding answer_with
  answer_given o e = rw e

  pub answer_refused : (o : Outcome) → eqb (refusal_of o) 0 ≡ false → answered o ≡ refused_with scheme family auc buffer o
  unfolding answer_with
  answer_refused o e = rw e

-- ---- refusals

-- in range, or MAC-S right: refusal 5 does not apply
pub not_five : (range right : Bool) → (range || right) ≡ true → (not range && not right) ≡ false
not_five true right e = refl
not_five false true e = refl
not_five false false e = sym e

-- a resynchronisation that is not refused has a batch
pub told_batch : (b : Bool) → refusal_of (cond b kept reset) ≡ 0
told_batch true = refl
told_batch false = refl

module _ (scheme : Scheme) (family : Family) (auc : Auc) where
  abbrev w : ℕ
  w = width_of scheme auc.edition

  pub valid_iff : (valid_auc scheme family auc ≡ true)
      ↔ ((family.admits auc.edition auc.keys ≡ true) × (auc.seqhe ≤ limit w) × (auc.next < indices w))
  unfolding valid_auc
  valid_iff = (
    λ e.
        let all = (and-eq-true_iff (family.admits auc.edition auc.keys && leb auc.seqhe (limit w))
        (ltb auc.next (indices w))).0 e in
        let two = (and-eq-true_iff (family.admits auc.edition auc.keys) (leb auc.seqhe (limit w))).0 all.0 in
        (two.0, leb-true auc.seqhe (limit w) two.1, ltb-true auc.next (indices w) all.1),
    λ h. rw (h.0, le-leb auc.seqhe (limit w) h.1, lt-ltb auc.next (indices w) h.2),
  )

  -- refusals 1 to 4, the lowest that applies
  module _ (count n : ℕ) (lent : Bool) (rands : Octets) where
    abbrev chain : Outcome → Outcome
    chain rest = unless_refused scheme family auc count n lent rands rest

    pub refusal_1 : (rest : Outcome) → valid_auc scheme family auc ≡ false → chain rest ≡ refused 1
    unfolding unless_refused
    refusal_1 rest bad = rw bad

    pub refusal_2 : (rest : Outcome) → valid_auc scheme family auc ≡ true → most_vectors < count → chain rest ≡ refused 2
    unfolding unless_refused
    refusal_2 rest valid many = rw (valid, lt-ltb most_vectors count many)

    module _ (rest : Outcome) (valid : valid_auc scheme family auc ≡ true) (small : count ≤ most_vectors) where
      pub refusal_3 : lent ≡ false → chain rest ≡ refused 3
      unfolding unless_refused
      refusal_3 other = rw (valid, le-ltb most_vectors count small, other)

      pub refusal_4 : (i j : ℕ) → lent ≡ true → equal_pair rands n ≡ equal_at i j → chain rest ≡ repeated i j
      unfolding unless_refused
      refusal_4 i j named pair = rw (valid, le-ltb most_vectors count small, named, pair)

      pub not_refused : lent ≡ true → equal_pair rands n ≡ unequal → chain rest ≡ rest
      unfolding unless_refused
      not_refused named pair = rw (valid, le-ltb most_vectors count small, named, pair)

    -- none of them applies
    pub record Passes : Type 0 where
      pub valid : valid_auc scheme family auc ≡ true
      pub small : count ≤ most_vectors
      pub named : lent ≡ true
      pub unequal_rands : equal_pair rands n ≡ unequal

    pub passes : (rest : Outcome) → refusal_of (chain rest) ≡ 0 → Passes
    unfolding unless_refused
    passes rest e = go (valid_auc scheme family auc) (ltb most_vectors count) lent (equal_pair rands n) refl refl refl refl e
      where
        go : (v many named : Bool) (pair : Pair)
            → valid_auc scheme family auc ≡ v → ltb most_vectors count ≡ many → lent ≡ named → equal_pair rands n ≡ pair
            → refusal_of (cond (not v) (refused 1) (cond many (refused 2) (cond (not named) (refused 3) (unless_repeated pair rest)))) ≡ 0
            → Passes
        go false many named pair a b c d z = absurd (omega arith)
        go true true named pair a b c d z = absurd (omega arith)
        go true false false pair a b c d z = absurd (omega arith)
        go true false true (equal_at i j) a b c d z = absurd (omega arith)
        go true false true unequal a b c d z = record { valid = a; small = ltb-false most_vectors count b; named = c; unequal_rands = d }

    pub passes_on : Passes → (rest : Outcome) → chain rest ≡ rest
    passes_on p rest = not_refused rest p.valid p.small p.named p.unequal_rands

  pub is_past : (from n : ℕ) (rest : Outcome) → limit w < from + n → unless_past scheme family auc from n rest ≡ refused 6
  unfolding unless_past
  is_past from n rest h = rw (lt-ltb (limit w) (from + n) h)

  pub not_past : (from n : ℕ) (rest : Outcome) → from + n ≤ limit w → unless_past scheme family auc from n rest ≡ rest
  unfolding unless_past
  not_past from n rest h = rw (le-ltb (limit w) (from + n) h)

  -- ---- what AUTS leads to, behind refusals 1 to 4

  module _ (rand auts : Octets) (n : ℕ) where
    abbrev F : Functions
    F = family.under auc.keys

    abbrev range : Bool
    range = in_range auc.seqhe (seq_ms_in w F rand auts) n

    abbrev from : ℕ
    from = resync_from scheme family auc rand auts n

    pub auts_five : (not range && not (mac_s_right F rand auts)) ≡ true → auts_outcome scheme family auc rand auts n ≡ refused 5
    unfolding auts_outcome
    auts_five wrong = rw wrong

    pub auts_on : (not range && not (mac_s_right F rand auts)) ≡ false
        → auts_outcome scheme family auc rand auts n ≡ unless_past scheme family auc from n (cond range kept reset)
    unfolding auts_outcome
    auts_on right = rw right

  -- ---- when no refusal applies

  module _ (count : ℕ) (rands buffer : Octets) (valid : valid_auc scheme family auc ≡ true) (small : count ≤ most_vectors) where
    module _ (hr : length rands ≡ rand_size * order_count count) (hb : length buffer ≡ vector_size * order_count count)
        (pair : equal_pair rands (order_count count) ≡ unequal) where
      abbrev N : ℕ
      N = order_count count

      order_outcome_lem : order_outcome scheme family auc count rands buffer ≡ unless_past scheme family auc auc.seqhe N given
      unfolding order_outcome
      order_outcome_lem =
          let named = (lent_iff N (length rands) (length buffer)).1 (hr, hb) in
          let six = unless_past scheme family auc auc.seqhe N given in
          not_refused count N (lent_for N (length rands) (length buffer)) rands six valid small named pair

      -- a batch is given
      pub order_given : auc.seqhe + N ≤ limit w
          → order scheme family auc count rands buffer ≡ given_with scheme family auc auc.seqhe rands N given
      unfolding order answer_with
      order_given room = rw (order_outcome_lem, not_past auc.seqhe N given room)

      -- the last SEQ would pass the limit
      pub order_past : limit w < auc.seqhe + N → (order scheme family auc count rands buffer).outcome ≡ refused 6
      unfolding order answer_with
      order_past past = rw (order_outcome_lem, is_past auc.seqhe N given past)

    -- a batch is given, SEQ_HE kept or reset
    module _ (hr : length rands ≡ rand_size * resync_count count) (hb : length buffer ≡ vector_size * resync_count count)
        (pair : equal_pair rands (resync_count count) ≡ unequal)
        (rand auts : Octets) (hrand : length rand ≡ rand_size) (hauts : length auts ≡ auts_size)
        (right : (range rand auts (resync_count count) || mac_s_right (family.under auc.keys) rand auts) ≡ true)
        (room : from rand auts (resync_count count) + resync_count count ≤ limit w) where
      abbrev n : ℕ
      n = resync_count count

      abbrev told : Outcome
      told = cond (range rand auts n) kept reset

      resync_outcome_lem : resync_outcome scheme family auc count rands buffer rand auts ≡ told
      unfolding resync_outcome
      resync_outcome_lem =
          rw ((lent_iff n (length rands) (length buffer)).1 (hr, hb), (lent_auts_iff (length rand) (length auts)).1 (hrand, hauts))
          (not_refused count n true rands (auts_outcome scheme family auc rand auts n) valid small refl pair
          ∙ auts_on rand auts n (not_five (range rand auts n) (mac_s_right (family.under auc.keys) rand auts) right)
          ∙ not_past (from rand auts n) n told room)

      pub resync_given : resync scheme family auc count rands buffer rand auts
          ≡ given_with scheme family auc (from rand auts n) rands n told
      unfolding resync
      resync_given =
          rw resync_outcome_lem (answer_given scheme family auc (from rand auts n) rands n buffer told (told_batch (range rand auts n)))
