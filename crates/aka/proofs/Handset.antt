-- Laws of the handset's answer. Assumes nothing.
use Prim.Native.Nat.{ℕ}
use mathlib.Core.Bool.{Bool, true, false, ◌&&◌, not, cond, and-eq-true_iff}
use mathlib.Core.Path.{◌≡◌, refl, sym, ap, ◌∙◌, subst}
use native.Mathlib.Omega.{arith}
use borrow.Author.Tests.{eqb-true}
use lib.Dec.{eqb}
use lib.ListN.{length, length-append}
use Rattle.octets.specs.Octets.{Octets, zeros, part}
use Rattle.octets.proofs.Absurd.{zero_not_one}
use Rattle.octets.proofs.Parts.{front, past, whole}
use Rattle.aka.specs.Layout.{rand_size, autn_size, auts_size, res_size, ck_size, ik_size, answer_size, write_answer, store_size}
use Rattle.aka.specs.Functions.{Family, Lengths, Lawful, Shaped}
use Rattle.aka.specs.Sequence.{Scheme}
use Rattle.aka.specs.Usim.{Usim, UsimAnswer, challenge}
use Rattle.aka.specs.Usim as card
use Rattle.aka.specs.Handset.{Store, holding, repeats, answer_in, Outcome, handed_on, HandsetAnswer, parts_right, nothing_shown}
use Rattle.aka.specs.Handset.{repeated, accepted, mac_failure, sync_failure, refused}
use Rattle.aka.specs.Handset.{outcome_on, answer_with, challenged, told, Source, nowhere, source_of, source, keep, after, in_order}
use Rattle.aka.proofs.Verdicts as known

-- ---- the lengths of the parts

pub parts_known : (store : Store) (rand fresh : Octets) → parts_right store rand fresh ≡ true
    → (length store.octets ≡ store_size) × (length rand ≡ rand_size) × (length fresh ≡ answer_size)
unfolding parts_right
parts_known store rand fresh e =
    let stored = eqb (length store.octets) store_size in
    let both = (and-eq-true_iff (stored && eqb (length rand) rand_size) (eqb (length fresh) answer_size)).0 e in
    let front = (and-eq-true_iff stored (eqb (length rand) rand_size)).0 both.0 in
    (eqb-true _ _ front.0, eqb-true _ _ front.1, eqb-true _ _ both.1)

pub parts_right_lem : (store : Store) (rand fresh : Octets) → length store.octets ≡ store_size → length rand ≡ rand_size
    → length fresh ≡ answer_size → parts_right store rand fresh ≡ true
unfolding parts_right
parts_right_lem store rand fresh hs hr hf = rw (hs, hr, hf)

-- what is shown from somewhere has its lengths
pub source_known : (outcome : Outcome) (store : Store) (rand fresh : Octets) (from : Source) → (from ≡ nowhere → ⊥)
    → source outcome store rand fresh ≡ from → parts_right store rand fresh ≡ true
unfolding source
source_known outcome store rand fresh from h e = go (parts_right store rand fresh) e
  where
    go : (b : Bool) → cond b (source_of outcome (repeats store rand)) nowhere ≡ from → b ≡ true
    go true q = refl
    go false q = absurd (h (sym q))

-- ---- a store that holds an answer

pub length_answer : (res ck ik : Octets) → length res ≡ res_size → length ck ≡ ck_size → length ik ≡ ik_size
    → length (write_answer res ck ik) ≡ answer_size
unfolding write_answer
length_answer res ck ik hr hc hi = simp length-append (omega arith)

module _ (rand answer : Octets) (hr : length rand ≡ rand_size) where
  pub held_rand : part 0 rand_size (holding rand answer).octets ≡ rand
  held_rand = front rand answer rand_size hr

  pub held_answer : length answer ≡ answer_size → answer_in (holding rand answer) ≡ answer
  held_answer ha = past rand answer rand_size 0 answer_size hr ∙ whole answer answer_size ha

-- ---- the answer to a challenge

pub no_repeat : (v : card.Verdict) → handed_on v ≡ repeated → ⊥
no_repeat card.accepted e = zero_not_one (cc)
no_repeat card.mac_failure e = zero_not_one (cc)
no_repeat card.sync_failure e = zero_not_one (cc)
no_repeat (card.refused number) e = zero_not_one (cc)

handed_accepted : (v : card.Verdict) → handed_on v ≡ accepted → v ≡ card.accepted
handed_accepted card.accepted e = refl
handed_accepted card.mac_failure e = zero_not_one (cc)
handed_accepted card.sync_failure e = zero_not_one (cc)
handed_accepted (card.refused number) e = zero_not_one (cc)

-- where nothing is shown, nothing is kept, whatever the lengths
module _ (usim : Usim) (store : Store) (rand fresh : Octets) (o : Outcome) (auts : Octets) where
  abbrev silent : HandsetAnswer
  silent = nothing_shown usim store fresh o auts

  nothing_kept : ((same : Bool) → source_of o same ≡ nowhere) → after o store rand fresh ≡ store
      → in_order (told silent) store rand ≡ silent
  unfolding source keep
  nothing_kept none stays = go (parts_right store rand fresh) refl
    where
      go : (b : Bool) → parts_right store rand fresh ≡ b → in_order (told silent) store rand ≡ silent
      go true e = rw (e, none (repeats store rand), stays) refl
      go false e = rw e refl

module _ (scheme : Scheme) (family : Family) (usim : Usim) (store : Store) (rand autn fresh : Octets) where
  abbrev answer : HandsetAnswer
  answer = challenged scheme family usim store rand autn fresh

  abbrev asked : UsimAnswer
  asked = challenge scheme family usim rand autn

  abbrev fit : Bool
  fit = parts_right store rand fresh && eqb (length autn) autn_size

  abbrev outcome : Outcome
  outcome = outcome_on scheme family usim store rand autn fresh

  outcome_with : (o : Outcome) → (answer_with scheme family usim store rand autn fresh o).outcome ≡ o
  unfolding answer_with
  outcome_with repeated = refl
  outcome_with accepted = refl
  outcome_with mac_failure = refl
  outcome_with sync_failure = refl
  outcome_with (refused number) = refl

  pub outcome_is : answer.outcome ≡ outcome
  unfolding challenged
  outcome_is = outcome_with outcome

  pub answer_of_lem : (o : Outcome) → answer.outcome ≡ o → answer ≡ answer_with scheme family usim store rand autn fresh o
  unfolding challenged
  answer_of_lem o e = ap (answer_with scheme family usim store rand autn fresh) (sym outcome_is ∙ e)

  -- another length: refusal 3, whatever else there is
  pub wrong_length : fit ≡ false → answer ≡ nothing_shown usim store fresh (refused 3) (zeros auts_size)
  unfolding outcome_on answer_with
  wrong_length bad = answer_of_lem (refused 3) (outcome_is ∙ rw bad)

  -- the stored RAND: the card is not asked
  pub repeats_it : fit ≡ true → repeats store rand ≡ true → answer ≡ answer_with scheme family usim store rand autn fresh repeated
  unfolding outcome_on
  repeats_it right same = answer_of_lem repeated (outcome_is ∙ rw (right, same))

  -- any other RAND: the card decides
  pub asks_card : fit ≡ true → repeats store rand ≡ false → answer.outcome ≡ handed_on asked.verdict
  unfolding outcome_on
  asks_card right other = outcome_is ∙ rw (right, other)

  -- a repeat had the lengths named and the stored RAND
  pub repeated_tests : outcome ≡ repeated → (fit ≡ true) × (repeats store rand ≡ true)
  unfolding outcome_on
  repeated_tests e = go fit refl (repeats store rand) refl e
    where
      go : (b : Bool) → fit ≡ b → (c : Bool) → repeats store rand ≡ c
          → cond (not b) (refused 3) (cond c repeated (handed_on asked.verdict)) ≡ repeated → (fit ≡ true) × (repeats store rand ≡ true)
      go true h true g q = (h, g)
      go true h false g q = absurd (no_repeat asked.verdict q)
      go false h c g q = zero_not_one (cc)

  -- an acceptance had the lengths named and another RAND, and is the card's
  pub accepted_tests : outcome ≡ accepted → (fit ≡ true) × (repeats store rand ≡ false) × (asked.verdict ≡ card.accepted)
  unfolding outcome_on
  accepted_tests e = go fit refl (repeats store rand) refl e
    where
      go : (b : Bool) → fit ≡ b → (c : Bool) → repeats store rand ≡ c
          → cond (not b) (refused 3) (cond c repeated (handed_on asked.verdict)) ≡ accepted
          → (fit ≡ true) × (repeats store rand ≡ false) × (asked.verdict ≡ card.accepted)
      go true h true g q = zero_not_one (cc)
      go true h false g q = (h, g, handed_accepted asked.verdict q)
      go false h c g q = zero_not_one (cc)

  pub fit_parts : fit ≡ true → (parts_right store rand fresh ≡ true) × (length autn ≡ autn_size)
  fit_parts e =
      let both = (and-eq-true_iff (parts_right store rand fresh) (eqb (length autn) autn_size)).0 e in
      (both.0, eqb-true (length autn) autn_size both.1)

  module _ (lawful : Lawful family) (shaped : Shaped usim.keys) where
    abbrev given : Octets
    given = write_answer asked.res asked.ck asked.ik

    -- what an accepting card gives has its length
    pub length_given : asked.verdict ≡ card.accepted → length given ≡ answer_size
    unfolding card.answer_with
    length_given e =
        let tests = known.accepted_tests scheme family usim rand autn e in
        let hr = (known.lengths_known rand autn tests.1).0 in
        let admitted = (known.valid_parts scheme family usim tests.0).0 in
        let L : Lengths (family.under usim.keys) = lawful.lengths usim.edition usim.keys admitted shaped in
        rw (known.answer_of_lem scheme family usim rand autn card.accepted e)
        (length_answer _ _ _ (L.f2 rand hr) (L.f3 rand hr) (L.f4 rand hr))

    -- ---- the three calls, one after the other, make the whole answer

    abbrev whole_order : Outcome → Type 0
    whole_order o =
        in_order (told (answer_with scheme family usim store rand autn fresh o)) store rand
        ≡ answer_with scheme family usim store rand autn fresh o

    with_order : (o : Outcome) → outcome ≡ o → whole_order o
    unfolding answer_with source keep
    with_order repeated e =
        let tests = repeated_tests e in rw ((fit_parts tests.0).0, tests.1) refl
    with_order accepted e =
        let tests = accepted_tests e in
        let sizes = parts_known store rand fresh (fit_parts tests.0).0 in
        let right : parts_right store rand given ≡ true = parts_right_lem store rand given sizes.0 sizes.1 (length_given tests.2) in
        rw (right, tests.1) refl
    with_order mac_failure e = nothing_kept _ store rand _ mac_failure _ (λ same. refl) refl
    with_order sync_failure e = nothing_kept _ store rand _ sync_failure _ (λ same. refl) refl
    with_order (refused number) e = nothing_kept _ store rand _ (refused number) _ (λ same. refl) refl

    pub in_order_lem : in_order (told answer) store rand ≡ answer
    in_order_lem =
        subst (λ (a : HandsetAnswer). in_order (told a) store rand ≡ a) (sym (answer_of_lem outcome outcome_is)) (with_order outcome refl)
