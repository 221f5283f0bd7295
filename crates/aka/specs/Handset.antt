-- The handset (document 02, #101): the store in which it keeps its last answer, and its whole answer to a challenge of any octets. TS
-- 33.102 §6.3.3, 'Re-use and re-transmission of (RAND, AUTN)': a RAND that comes again is answered again without the USIM, so that a
-- request sent twice does not end in a synchronisation failure. Voice (CS) and data (PS) have a store each; a call works on the store that
-- it is lent. Assumes nothing.
use Rattle.std.specs.Prelude.{ℕ, Bool, true, false, ◌&&◌, not, cond, [], ◌++◌, eqb, length}
use Rattle.octets.specs.Octets.{Octets, zeros, part, equal}
use Rattle.aka.specs.Layout.{rand_size, autn_size, auts_size, answer_size, write_answer, answer_at, store_size}
use Rattle.aka.specs.Functions.{Family}
use Rattle.aka.specs.Sequence.{Scheme}
use Rattle.aka.specs.Usim.{Usim, UsimAnswer, challenge}
use Rattle.aka.specs.Usim as card

-- ---- the store

-- 'the last RAND with its RES, CK and IK'
pub record Store : Type 0 where
  pub held : Bool
  pub octets : Octets

-- 'all zero when cleared'
abbrev pub cleared : Store
cleared = record { held = false; octets = zeros store_size }

abbrev pub holding : (rand answer : Octets) → Store
holding rand answer = record { held = true; octets = rand ++ answer }

-- the RAND that the store has comes again; 'unheld, no RAND matches'
unfoldable pub repeats : Store → (rand : Octets) → Bool
repeats store rand = store.held && equal (part 0 rand_size store.octets) rand

-- the answer that stands in the store
abbrev pub answer_in : Store → Octets
answer_in store = part answer_at answer_size store.octets

-- ---- the answer to a challenge

-- a repeat, or what the card says; a refusal is the handset's own or the card's
pub data Outcome : Type 0 where
  repeated accepted mac_failure sync_failure : Outcome
  refused : (number : ℕ) → Outcome

-- document 01's refusal number, 0 for none
abbrev pub refusal_of : Outcome → ℕ
refusal_of repeated = 0
refusal_of accepted = 0
refusal_of mac_failure = 0
refusal_of sync_failure = 0
refusal_of (refused number) = number

-- the card's verdict, handed on
abbrev pub handed_on : card.Verdict → Outcome
handed_on card.accepted = accepted
handed_on card.mac_failure = mac_failure
handed_on card.sync_failure = sync_failure
handed_on (card.refused number) = refused number

pub record HandsetAnswer : Type 0 where
  pub outcome : Outcome
  pub usim : Usim  -- the card's next record
  pub auts : Octets
  pub store : Store
  pub fresh : Octets  -- the octets lent for a fresh answer
  pub shown : Octets  -- the part that is shown: of the stored octets, of the fresh ones, or empty

-- store, RAND and fresh octets have the lengths named
unfoldable pub parts_right : Store → (rand fresh : Octets) → Bool
parts_right store rand fresh =
    eqb (length store.octets) store_size && eqb (length rand) rand_size && eqb (length fresh) answer_size

-- card, store and fresh octets stay as they were, and nothing is shown
abbrev pub nothing_shown : Usim → Store → (fresh : Octets) → Outcome → (auts : Octets) → HandsetAnswer
nothing_shown usim store fresh outcome auts = record {
  outcome = outcome;
  usim = usim;
  auts = auts;
  store = store;
  fresh = fresh;
  shown = [];
}

-- a challenge at the handset, with the card that is in it
module _ (scheme : Scheme) (family : Family) (usim : Usim) (store : Store) (rand autn fresh : Octets) where
  -- what the card says when it is asked
  abbrev asked : UsimAnswer
  asked = challenge scheme family usim rand autn

  abbrev given : Octets
  given = write_answer asked.res asked.ck asked.ik

  -- '3 for a wrong length', before anything else; 'when the same RAND comes again, repeat the answer without asking the card', so that
  -- neither what AUTN says nor the card is looked at; else the card is asked
  unfoldable pub outcome_on : Outcome
  outcome_on =
      cond (not (parts_right store rand fresh && eqb (length autn) autn_size)) (refused 3)
      (cond (repeats store rand) repeated
      (handed_on asked.verdict))

  -- what goes with each outcome
  unfoldable pub answer_with : Outcome → HandsetAnswer
  answer_with repeated = record {
    outcome = repeated;
    usim = usim;
    auts = zeros auts_size;
    store = store;
    fresh = fresh;
    shown = answer_in store;
  }
  answer_with accepted = record {
    outcome = accepted;
    usim = asked.usim;
    auts = zeros auts_size;
    store = holding rand given;
    fresh = given;
    shown = given;
  }
  answer_with mac_failure = nothing_shown usim store fresh mac_failure (zeros auts_size)
  answer_with sync_failure = nothing_shown usim store fresh sync_failure asked.auts
  answer_with (refused number) = nothing_shown usim store fresh (refused number) (zeros auts_size)

  -- the handset's whole answer
  unfoldable pub challenged : HandsetAnswer
  challenged = answer_with outcome_on

-- ---- the same in three calls: answer, shown, keep. A part of lent octets cannot be written and shown in one call

-- the first reads the store and writes the fresh octets
pub record Told : Type 0 where
  pub outcome : Outcome
  pub usim : Usim
  pub auts : Octets
  pub fresh : Octets

abbrev pub told : HandsetAnswer → Told
told a = record { outcome = a.outcome; usim = a.usim; auts = a.auts; fresh = a.fresh }

-- where the answer lies that is shown
pub data Source : Type 0 where
  in_stored in_fresh nowhere : Source

-- by the outcome, and by whether RAND equals the stored one. An acceptance is shown from the fresh octets; the store has it too once it is
-- kept there. What is no repeat after all is not shown, and a failure or a refusal never.
abbrev pub source_of : Outcome → (same : Bool) → Source
source_of repeated true = in_stored
source_of repeated false = nowhere
source_of accepted true = in_stored
source_of accepted false = in_fresh
source_of mac_failure same = nowhere
source_of sync_failure same = nowhere
source_of (refused number) same = nowhere

abbrev pub part_of : Source → Store → (fresh : Octets) → Octets
part_of in_stored store fresh = answer_in store
part_of in_fresh store fresh = fresh
part_of nowhere store fresh = []

-- the second chooses the part; where a length is wrong, it is empty
unfoldable pub source : Outcome → Store → (rand fresh : Octets) → Source
source outcome store rand fresh = cond (parts_right store rand fresh) (source_of outcome (repeats store rand)) nowhere

abbrev pub shown : Outcome → Store → (rand fresh : Octets) → Octets
shown outcome store rand fresh = part_of (source outcome store rand fresh) store fresh

-- a store after a call that writes it, and document 01's refusal number, 0 for none
pub record Written : Type 0 where
  pub refusal : ℕ
  pub store : Store

-- the store after an outcome: an acceptance puts RAND and the answer there
abbrev pub after : Outcome → Store → (rand fresh : Octets) → Store
after accepted store rand fresh = holding rand fresh
after repeated store rand fresh = store
after mac_failure store rand fresh = store
after sync_failure store rand fresh = store
after (refused number) store rand fresh = store

-- the third keeps what was accepted
unfoldable pub keep : Outcome → Store → (rand fresh : Octets) → Written
keep outcome store rand fresh =
    cond (not (parts_right store rand fresh)) (record { refusal = 3; store = store })
    (record { refusal = 0; store = after outcome store rand fresh })

-- the whole answer that the three make, one after the other
abbrev pub in_order : Told → Store → (rand : Octets) → HandsetAnswer
in_order t store rand = record {
  outcome = t.outcome;
  usim = t.usim;
  auts = t.auts;
  store = (keep t.outcome store rand t.fresh).store;
  fresh = t.fresh;
  shown = shown t.outcome store rand t.fresh;
}

-- ---- clearing

-- 'A store is cleared by the security mode command or a lost connection.' 3 for another length, and then nothing changes
unfoldable pub clear : Store → Written
clear store =
    cond (not (eqb (length store.octets) store_size)) (record { refusal = 3; store = store })
    (record { refusal = 0; store = cleared })
