-- The order of use at one VLR, over every list of calls (demand 2): the node takes each vector and each triplet once, all in the order
-- received; only an unanswered request is repeated. Document 01, 'What the node does' and 'How far each statement reaches'; document 02,
-- #102. Assumes nothing.
--
-- The calls that were taken tell a history, and the history alone tells everything else: which call the node must take and which it must
-- refuse, every octet that it gives, and its whole record. Read `History`, `adds` (what a call does to it) and `Meets` (what is promised
-- of one call).
use Rattle.std.specs.Prelude.{ℕ, zero, suc, ◌+◌, ◌-◌, ◌*◌, ◌<◌, Bool, true, false, ◌||◌, not, cond, List, [], ◌∷◌, ◌++◌, map, ◌↔◌}
use Rattle.std.specs.Prelude.{◌≡◌, eqb, length}
use Rattle.std.proofs.Math.Option.{Option, none, some}
use Rattle.octets.specs.Octets.{Octets, zeros}
use Rattle.aka.specs.Layout.{Kind}
use Rattle.aka.specs.Vlr.{Vlr, VlrAnswer, done, passed, cause, refusal_of, most_held, place_size, no_item, new_vlr, valid_vlr}
use Rattle.aka.specs.Vlr.{place_at, places_of, kind_in, Run, run_in}
use Rattle.aka.specs.Vlr as node
use Rattle.aka.specs.Calls.{Call, store, renew, ask, again, answer, sync, reject, timeout, abandon}
use Rattle.aka.specs.Demand3.{Each}
use Rattle.aka.specs.VlrLaws.{terms_of, Due, given, nothing, request_of, failure_of, keys_of}

-- ---- what has happened so far

-- the state of the node; in Asked the position whose request is unanswered
pub data Phase : Type 0 where
  idle : Phase
  asked : (position : ℕ) → Phase
  resyncing : Phase

-- how an item leaves the places: Ask takes the oldest, Renew drops all that are held
pub data Way : Type 0 where
  requested dropped : Way

pub record Gone : Type 0 where
  pub position : ℕ
  pub way : Way

pub record History : Type 0 where
  -- every item ever stored, by Store or Renew, in its place, one behind the other in that order: the first is at position 0
  pub stored : Octets
  pub total : ℕ  -- how many they are
  pub gone : List Gone  -- those that have left, the latest first
  pub phase : Phase

abbrev pub nothing_yet : History
nothing_yet = record { stored = []; total = 0; gone = []; phase = idle }

abbrev pub positions : List Gone → List ℕ
positions gone = map (λ g. g.position) gone

unfoldable pub is_in : ℕ → List ℕ → Bool
is_in p [] = false
is_in p (q ∷ rest) = eqb p q || is_in p rest

-- the item at this position has not left
unfoldable pub is_unused : History → (position : ℕ) → Bool
is_unused h p = not (is_in p (positions h.gone))

-- the unused ones among the positions p, p + 1, .. (`left` of them)
unfoldable pub unused_from : History → (p left : ℕ) → List ℕ
unused_from h p zero = []
unused_from h p (suc left) = cond (is_unused h p) (p ∷ unused_from h (suc p) left) (unused_from h (suc p) left)

-- the positions of all items that were stored and have not left, in the order of storing
abbrev pub unused : History → List ℕ
unused h = unused_from h 0 h.total

-- the oldest of them
abbrev pub oldest : List ℕ → Option ℕ
oldest [] = none
oldest (p ∷ rest) = some p

-- the position whose request is unanswered
abbrev pub unanswered : Phase → Option ℕ
unanswered idle = none
unanswered (asked p) = some p
unanswered resyncing = none

-- ---- what a call that is taken adds to it

-- another phase
abbrev pub enters : History → Phase → History
enters h phase = record { stored = h.stored; total = h.total; gone = h.gone; phase = phase }

-- the items of a batch, behind all that were stored before
abbrev pub stores : History → Kind → (count : ℕ) (batch : Octets) → History
stores h kind count batch = record {
  stored = h.stored ++ places_of kind batch count;
  total = h.total + count;
  gone = h.gone;
  phase = h.phase;
}

-- the items at these positions, the first of them first, leave in one way
unfoldable pub leave : Way → List ℕ → List Gone → List Gone
leave way [] gone = gone
leave way (p ∷ rest) gone = leave way rest (record { position = p; way = way } ∷ gone)

abbrev pub leaves : History → Way → List ℕ → Phase → History
leaves h way ps phase = record { stored = h.stored; total = h.total; gone = leave way ps h.gone; phase = phase }

abbrev pub requests : History → Option ℕ → History
requests h none = h
requests h (some p) = leaves h requested (p ∷ []) (asked p)

abbrev pub adds : History → Call → History
adds h (store kind count batch) = stores h kind count batch
adds h (renew kind count batch) = stores (leaves h dropped (unused h) idle) kind count batch
adds h ask = requests h (oldest (unused h))
adds h again = h
adds h (answer res) = enters h idle
adds h (sync auts) = enters h resyncing
adds h reject = enters h idle
adds h timeout = enters h idle
adds h abandon = enters h idle

-- a call and its answer
pub record Handled : Type 0 where
  pub call : Call
  pub answer : VlrAnswer

abbrev pub is_taken : VlrAnswer → Bool
is_taken a = eqb (refusal_of a.outcome) 0

-- a refused call adds nothing
abbrev pub after : History → Handled → History
after h x = cond (is_taken x.answer) (adds h x.call) h

-- ---- what the history tells of the record

abbrev pub state_of : Phase → node.State
state_of idle = node.idle
state_of (asked p) = node.asked
state_of resyncing = node.resyncing

-- the places at some positions, one behind the other
unfoldable pub places_at : (stored : Octets) (positions : List ℕ) → Octets
places_at stored [] = []
places_at stored (p ∷ rest) = place_at stored p ++ places_at stored rest

-- the outstanding item is the one whose request is unanswered
abbrev pub out_of : (stored : Octets) → Phase → Octets
out_of stored idle = no_item
out_of stored (asked p) = place_at stored p
out_of stored resyncing = no_item

-- what is held is what was stored and has not left, oldest first; the places behind are zero
abbrev pub record_of : History → Vlr
record_of h = record {
  state = state_of h.phase;
  held = length (unused h);
  queue = places_at h.stored (unused h) ++ zeros (place_size * (most_held - length (unused h)));
  out = out_of h.stored h.phase;
}

-- ---- what a call that is taken answers

-- there is such a position, its item was stored, and it is so of the run with that item
abbrev pub OfRun : History → Option ℕ → (Run → Type 0) → Type 0
OfRun h none P = ⊥
OfRun h (some p) P = (p < h.total) × P (run_in (place_at h.stored p))

-- a response equal to the run's passes with its keys, another has cause 2
pub record Compared (run : Run) (res : Octets) (a : VlrAnswer) : Type 0 where
  pub right : res ≡ run.response → (a.outcome ≡ passed) × (given a ≡ keys_of run)
  pub wrong : (res ≡ run.response → ⊥) → (a.outcome ≡ cause 2) × (given a ≡ nothing)

-- Ask gives the request of the oldest item that is unused; Again, Answer and Sync are about the one whose request is unanswered; no other
-- call gives an octet
abbrev pub Gives : Call → (before : History) → VlrAnswer → Type 0
Gives ask h a = OfRun h (oldest (unused h)) (λ run. (a.outcome ≡ done) × (given a ≡ request_of run))
Gives again h a = OfRun h (unanswered h.phase) (λ run. (a.outcome ≡ done) × (given a ≡ request_of run))
Gives (answer res) h a = OfRun h (unanswered h.phase) (λ run. Compared run res a)
Gives (sync auts) h a = OfRun h (unanswered h.phase) (λ run. (a.outcome ≡ done) × (given a ≡ failure_of run auts))
Gives reject h a = (a.outcome ≡ cause 1) × (given a ≡ nothing)
Gives (store kind count batch) h a = (a.outcome ≡ done) × (given a ≡ nothing)
Gives (renew kind count batch) h a = (a.outcome ≡ done) × (given a ≡ nothing)
Gives timeout h a = (a.outcome ≡ done) × (given a ≡ nothing)
Gives abandon h a = (a.outcome ≡ done) × (given a ≡ nothing)

-- ---- the statement

-- of a list with the latest first: each position is above all those before it
abbrev pub Rising : List ℕ → Type 0
Rising [] = Unit {0}
Rising (p ∷ earlier) = Each (λ q. q < p) earlier × Rising earlier

pub record Meets (h : History) (x : Handled) : Type 0 where
  -- a call is taken exactly if it is named for the state and for what is out, rightly counted and sized, and Store has room, Ask an
  -- unused item
  pub taken : (is_taken x.answer ≡ true)
      ↔ Due (terms_of (state_of h.phase) (length (unused h)) (kind_in (out_of h.stored h.phase)) x.call)
  pub gives : is_taken x.answer ≡ true → Gives x.call h x.answer
  -- a refused call gives no octet
  pub refused : is_taken x.answer ≡ false → given x.answer ≡ nothing
  -- the positions that leave rise strictly: none is asked twice, none after a later one, and none that was dropped
  pub rising : Rising (positions (after h x).gone)
  -- the next record
  pub keeps : x.answer.vlr ≡ record_of (after h x)
  pub valid : valid_vlr x.answer.vlr ≡ true

-- of a list of calls, the first one first, that this history preceded
unfoldable pub InOrder : History → List Handled → Type 0
InOrder h [] = Unit {0}
InOrder h (x ∷ rest) = Meets h x × InOrder (after h x) rest

-- the answers of a node to a list of calls: each call gets the record that the one before returned
module _ (node : Vlr → Call → VlrAnswer) where
  unfoldable pub answers : Vlr → List Call → List Handled
  answers vlr [] = []
  answers vlr (call ∷ rest) = record { call = call; answer = node vlr call } ∷ answers (node vlr call).vlr rest

  -- for every list of calls on a new node
  abbrev pub OrderOfUse : Type 0
  OrderOfUse = (calls : List Call) → InOrder nothing_yet (answers new_vlr calls)
