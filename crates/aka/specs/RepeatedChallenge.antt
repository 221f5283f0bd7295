-- A repeated challenge at a phone, over every list of calls (document 02, #101; TS 33.102 §6.3.3, 'Re-use and re-transmission of (RAND,
-- AUTN)'). What was last accepted on a store, and not cleared since, tells which RAND is repeated there and what is then shown. Read
-- `Kept`, `kept_after` (what a call does to it) and `Meets` (what is promised of one call). Assumes nothing.
use Rattle.std.specs.Prelude.{ℕ, Bool, true, false, cond, List, [], ◌∷◌, ◌++◌, ◌≡◌, eqb, length}
use Rattle.std.proofs.Math.Option.{Option, none, some}
use Rattle.octets.specs.Octets.{Octets, zeros, part}
use Rattle.aka.specs.Layout.{rand_size, auts_size, store_size}
use Rattle.aka.specs.Functions.{Family, Shaped, Lawful}
use Rattle.aka.specs.Sequence.{Scheme}
use Rattle.aka.specs.Usim.{Usim, challenge}
use Rattle.aka.specs.Handset.{Store, answer_in, Outcome, HandsetAnswer, challenged, nothing_shown, Written, clear, handed_on}
use Rattle.aka.specs.Handset.{repeated, accepted, mac_failure, sync_failure, refused}
use Rattle.aka.specs.Handset as handset
use Rattle.aka.specs.HandsetLaws.{LengthsNamed}
use Rattle.aka.specs.Demand3.{Each}

-- ---- calls on one store

-- a challenge, with the card that is in the phone then and the octets lent for a fresh answer
pub record Challenge : Type 0 where
  pub usim : Usim
  pub rand : Octets
  pub autn : Octets
  pub fresh : Octets

pub data Call : Type 0 where
  challenging : Challenge → Call
  clearing : Call

-- K and OPc of the card have their length (the code's types see to it)
abbrev pub CardShaped : Call → Type 0
CardShaped (challenging c) = Shaped c.usim.keys
CardShaped clearing = Unit {0}

-- a call that was answered, with the store that it was lent
pub data Handled : Type 0 where
  answered : Challenge → (store : Store) → HandsetAnswer → Handled
  cleared : (store : Store) → Written → Handled

abbrev pub store_after : Handled → Store
store_after (answered c store a) = a.store
store_after (cleared store a) = a.store

-- ---- what is kept on a store: the RAND of the last acceptance, and what was shown then

pub record Kept : Type 0 where
  pub rand : Octets
  pub answer : Octets

-- what a store holds before the first call
abbrev pub held_in : Store → Option Kept
held_in store = cond store.held (some (record { rand = part 0 rand_size store.octets; answer = answer_in store })) none

-- an acceptance takes the place of what was kept; no other challenge changes it
abbrev pub kept_with : Outcome → (latest : Kept) → Option Kept → Option Kept
kept_with accepted latest kept = some latest
kept_with repeated latest kept = kept
kept_with mac_failure latest kept = kept
kept_with sync_failure latest kept = kept
kept_with (refused number) latest kept = kept

-- a clearing that is not refused leaves nothing
abbrev pub kept_after : Handled → Option Kept → Option Kept
kept_after (answered c store a) kept = kept_with a.outcome (record { rand = c.rand; answer = a.shown }) kept
kept_after (cleared store a) kept = cond (eqb a.refusal 0) none kept

-- ---- what is promised of one call

-- refusal 3 does not apply
abbrev pub Named : Challenge → Store → Type 0
Named c store = LengthsNamed store c.rand c.autn c.fresh

-- the RAND of the challenge is the one that is kept, with this answer
abbrev pub Again : Option Kept → Challenge → (answer : Octets) → Type 0
Again kept c answer = kept ≡ some (record { rand = c.rand; answer = answer })

-- the answer is shown once more, and card, store and fresh octets stay as they were
abbrev pub repetition : (answer : Octets) → Challenge → Store → HandsetAnswer
repetition answer c store = record {
  outcome = repeated;
  usim = c.usim;
  auts = zeros auts_size;
  store = store;
  fresh = c.fresh;
  shown = answer;
}

-- a call that is no acceptance
abbrev pub NotAccepted : Handled → Type 0
NotAccepted (answered c store a) = a.outcome ≡ accepted → ⊥
NotAccepted (cleared store a) = Unit {0}

-- a call that does not clear the store
abbrev pub NotCleared : Handled → Type 0
NotCleared (answered c store a) = Unit {0}
NotCleared (cleared store a) = a.refusal ≡ 0 → ⊥

-- a clearing
pub record Clears (store : Store) (a : Written) : Type 0 where
  pub done : length store.octets ≡ store_size → a ≡ record { refusal = 0; store = handset.cleared }
  pub wrong : (length store.octets ≡ store_size → ⊥) → a ≡ record { refusal = 3; store = store }

-- a challenge
module _ (scheme : Scheme) (family : Family) where
  pub record Meets (kept : Option Kept) (c : Challenge) (store : Store) (a : HandsetAnswer) : Type 0 where
    -- the RAND that is kept, whatever AUTN and the card are
    pub again : Named c store → (answer : Octets) → Again kept c answer → a ≡ repetition answer c store
    -- any other RAND, and every RAND where nothing is kept: the card decides, and nothing is repeated
    pub other : Named c store → ((answer : Octets) → Again kept c answer → ⊥)
        → a.outcome ≡ handed_on (challenge scheme family c.usim c.rand c.autn).verdict
    -- a refusal changes nothing
    pub wrong : (Named c store → ⊥) → a ≡ nothing_shown c.usim store c.fresh (refused 3) (zeros auts_size)

  abbrev pub MeetsIn : Option Kept → Handled → Type 0
  MeetsIn kept (answered c store a) = Meets kept c store a
  MeetsIn kept (cleared store a) = Clears store a

  -- each call of a list, by what the calls before it have left
  unfoldable pub Repeats : Option Kept → List Handled → Type 0
  Repeats kept [] = Unit {0}
  Repeats kept (h ∷ rest) = MeetsIn kept h × Repeats (kept_after h kept) rest

  -- the same in the words of document 02: what `Repeats` says of a list, from one call in it to a later one
  pub record InWords : Type 0 where
    -- after an acceptance, whatever calls follow that are not accepted and do not clear the store, its RAND shows the same again
    pub shown_again : (kept : Option Kept) (c d : Challenge) (store later : Store) (a b : HandsetAnswer) (between rest : List Handled)
        → Repeats kept (answered c store a ∷ (between ++ (answered d later b ∷ rest)))
        → a.outcome ≡ accepted → Each NotAccepted between → Each NotCleared between → d.rand ≡ c.rand → Named d later
        → b ≡ repetition a.shown d later
    -- 'unheld, no RAND matches': a store once cleared repeats nothing before the next acceptance
    pub nothing_shown_lem : (kept : Option Kept) (d : Challenge) (store later : Store) (a : Written) (b : HandsetAnswer)
        (between rest : List Handled)
        → Repeats kept (cleared store a ∷ (between ++ (answered d later b ∷ rest)))
        → a.refusal ≡ 0 → Each NotAccepted between → b.outcome ≡ repeated → ⊥

  -- ---- the list of calls on one store

  abbrev pub handle : Store → Call → Handled
  handle store (challenging c) = answered c store (challenged scheme family c.usim store c.rand c.autn c.fresh)
  handle store clearing = cleared store (clear store)

  -- each call is lent the store that the one before left
  unfoldable pub alone : Store → List Call → List Handled
  alone store [] = []
  alone store (call ∷ rest) = handle store call ∷ alone (store_after (handle store call)) rest

-- ---- a phone: 'Voice and data each keep their own store'

pub data Domain : Type 0 where
  cs ps : Domain  -- voice, data

pub record Phone : Type 0 where
  pub voice : Store
  pub packets : Store

abbrev pub store_in : Domain → Phone → Store
store_in cs phone = phone.voice
store_in ps phone = phone.packets

abbrev pub with_store : Domain → Store → Phone → Phone
with_store cs store phone = record { voice = store; packets = phone.packets }
with_store ps store phone = record { voice = phone.voice; packets = store }

-- something that is done on one of the two
pub record On (A : Type 0) : Type 0 where
  pub domain : Domain
  pub what : A

abbrev pub is_same : Domain → Domain → Bool
is_same cs cs = true
is_same cs ps = false
is_same ps cs = false
is_same ps ps = true

-- what is done on this one
unfoldable pub only : {A : Type 0} → Domain → List (On A) → List A
only d [] = []
only d (x ∷ rest) = cond (is_same d x.domain) (x.what ∷ only d rest) (only d rest)

module _ (scheme : Scheme) (family : Family) where
  -- each call is lent the store of its domain
  unfoldable pub together : Phone → List (On Call) → List (On Handled)
  together phone [] = []
  together phone (x ∷ rest) =
      let h = handle scheme family (store_in x.domain phone) x.what in
      record { domain = x.domain; what = h } ∷ together (with_store x.domain (store_after h) phone) rest

  pub record Conclusion (phone : Phone) (handled : List (On Handled)) (calls : List (On Call)) : Type 0 where
    -- on either store each call is as promised
    pub each : (d : Domain) → Repeats scheme family (held_in (store_in d phone)) (only d handled)
    -- what is done on one store does not change what the other answers
    pub apart : (d : Domain) → only d handled ≡ alone scheme family (store_in d phone) (only d calls)

  -- for every phone and every list of calls on it, with any cards
  abbrev pub RepeatedChallenge : Type 0
  RepeatedChallenge = Lawful family → (phone : Phone) (calls : List (On Call)) → Each (λ x. CardShaped x.what) calls
      → Conclusion phone (together phone calls) calls
