-- A repeated challenge at a phone, of the running code. `aka` states it of the definitions; here it names what `handset::answer`, `shown`
-- and `keep`, one after the other, and `handset::clear` are lent and return. Assumes nothing.
use Rattle.std.specs.Prelude.{Bool, Result, List, [], ◌∷◌, map, ◌≡◌}
use Rattle.octets.specs.Octets.{Octets}
use Rattle.functions.specs.Sets.{sets}
use Rattle.aka.specs.Editions.{editions}
use Rattle.aka.specs.Usim.{UsimShaped}
use Rattle.aka.specs.Handset.{Store, HandsetAnswer, challenged, told, shown, keep, clear}
use Rattle.aka.specs.RepeatedChallenge as aka
use Rattle.aka.specs.declared.Refusal.{Refusal}
use Rattle.usim_record.specs.declared.Usim.{Usim}
use Rattle.usim_record.specs.Views.{usim_of}
use Rattle.handset_store.specs.declared.Outcome.{Outcome}
use Rattle.handset_store.specs.Views.{outcome_of, written_of}
use Rattle.handset.specs.declared.Told.{Told}
use Rattle.handset.specs.Views.{told_of}

-- ---- what the contracts say of one call

-- `answer`: of what it tells, of what the fresh octets have then, and of the card's record that it was given
pub record AnswerSays (usim : Usim) (store : Store) (rand autn fresh : Octets) (r : Told) (after : Octets) : Type 0 where
  pub answer_is : told_of r after ≡ told (challenged editions sets (usim_of usim) store rand autn fresh)
  pub shape : UsimShaped editions (usim_of usim)

-- `shown`: of the part that it returns
abbrev pub ShownSays : Outcome → Store → (rand fresh part : Octets) → Type 0
ShownSays outcome store rand fresh part = part ≡ shown (outcome_of outcome) store rand fresh

-- what `keep` and `clear` return: the mark, or a refusal, which leaves the mark as it was
abbrev pub Written : Type 0
Written = Result Bool Refusal

-- `keep`: of what it returns, and of what the stored octets are then
abbrev pub KeepSays : Outcome → Store → (rand fresh : Octets) → Written → (after : Octets) → Type 0
KeepSays outcome store rand fresh r after = written_of r store.held after ≡ keep (outcome_of outcome) store rand fresh

-- `clear`, likewise
abbrev pub ClearSays : Store → Written → (after : Octets) → Type 0
ClearSays store r after = written_of r store.held after ≡ clear store

-- ---- the calls on one store

-- a challenge: what is lent besides the store
pub record Challenge : Type 0 where
  pub usim : Usim
  pub rand : Octets
  pub autn : Octets
  pub fresh : Octets

-- what the three calls return and leave: `answer` with the fresh octets, `shown`, and `keep` with the stored octets
pub record Answer : Type 0 where
  pub told : Told
  pub fresh : Octets
  pub shown : Octets
  pub written : Written
  pub stored : Octets

-- the three calls, one after the other: the outcome and the fresh octets that `answer` left go to the other two
pub record Answered (store : Store) (c : Challenge) (a : Answer) : Type 0 where
  pub answer : AnswerSays c.usim store c.rand c.autn c.fresh a.told a.fresh
  pub shown : ShownSays a.told.outcome store c.rand a.fresh a.shown
  pub keep : KeepSays a.told.outcome store c.rand a.fresh a.written a.stored

pub data Ran : Type 0 where
  challenging : Challenge → Answer → Ran
  clearing : Written → (stored : Octets) → Ran

abbrev pub Happened : Store → Ran → Type 0
Happened store (challenging c a) = Answered store c a
Happened store (clearing written stored) = ClearSays store written stored

abbrev pub store_after : Store → Ran → Store
store_after store (challenging c a) = (written_of a.written store.held a.stored).store
store_after store (clearing written stored) = (written_of written store.held stored).store

-- ---- as the protocol has them

abbrev pub challenge_of : Challenge → aka.Challenge
challenge_of c = record { usim = usim_of c.usim; rand = c.rand; autn = c.autn; fresh = c.fresh }

abbrev pub answer_of : Store → Answer → HandsetAnswer
answer_of store a = record {
  outcome = outcome_of a.told.outcome;
  usim = usim_of a.told.usim;
  auts = a.told.auts;
  store = (written_of a.written store.held a.stored).store;
  fresh = a.fresh;
  shown = a.shown;
}

abbrev pub handled_of : Store → Ran → aka.Handled
handled_of store (challenging c a) = aka.answered (challenge_of c) store (answer_of store a)
handled_of store (clearing written stored) = aka.cleared store (written_of written store.held stored)

abbrev pub call_of : Ran → aka.Call
call_of (challenging c a) = aka.challenging (challenge_of c)
call_of (clearing written stored) = aka.clearing

abbrev pub call_on : aka.On Ran → aka.On aka.Call
call_on x = record { domain = x.domain; what = call_of x.what }

-- ---- a list of calls on the two stores of a phone: each is lent the store that the last one on it left

unfoldable pub Chain : aka.Phone → List (aka.On Ran) → Type 0
Chain phone [] = Unit {0}
Chain phone (x ∷ rest) =
    let store = aka.store_in x.domain phone in
    Happened store x.what × Chain (aka.with_store x.domain (store_after store x.what) phone) rest

unfoldable pub handled : aka.Phone → List (aka.On Ran) → List (aka.On aka.Handled)
handled phone [] = []
handled phone (x ∷ rest) =
    let store = aka.store_in x.domain phone in
    record { domain = x.domain; what = handled_of store x.what }
    ∷ handled (aka.with_store x.domain (store_after store x.what) phone) rest

-- for every phone and every list of calls on it, with any cards: `aka` `RepeatedChallenge.Conclusion` says what is promised
abbrev pub RepeatedChallenge : Type 0
RepeatedChallenge = (phone : aka.Phone) (calls : List (aka.On Ran)) → Chain phone calls
    → aka.Conclusion editions sets phone (handled phone calls) (map call_on calls)
