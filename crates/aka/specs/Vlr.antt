-- The serving node, VLR or SGSN (document 01: node): its record, and its whole answer to each of its nine operations.
-- TS 33.102 §6.3.3, §6.3.5 and §6.8; document 01, 'What the node does' and 'Refusal numbers'; document 02, #102. Assumes nothing.
use Rattle.std.specs.Prelude.{ℕ, zero, suc, ◌+◌, ◌-◌, ◌*◌, Bool, true, false, ◌&&◌, ◌||◌, not, cond, [], ◌∷◌, ◌++◌, eqb, leb}
use Rattle.std.specs.Prelude.{length, get_or, take, drop}
use Rattle.octets.specs.Octets.{Octets, zeros, part, equal}
use Rattle.aka.specs.Layout.{Vector, Triplet, Kind, vector, triplet, kind_size, kind_octet, item_size, vector_size, read_vector}
unfoldable pub use Rattle.aka.specs.Layout.{all_zero}
use Rattle.aka.specs.Layout.{read_triplet, rand_size, res_size, ck_size, ik_size, autn_size, auts_size, sres_size, kc_size, most_vectors}
use Rattle.aka.specs.Layout.{joined}

-- the most items held: vectors and triplets together
abbrev pub most_held : ℕ
most_held = 16

-- ---- places

-- the octets of a place, held or outstanding: the kind, then room for either kind's item
abbrev pub place_size : ℕ  -- 73
place_size = kind_size + vector_size

-- an item in its place; zeros follow a triplet
abbrev pub placed : Kind → (item : Octets) → Octets
placed kind item = kind_octet kind ∷ (item ++ zeros (vector_size - length item))

-- place k of a queue, and item k of a batch; both count from 0
abbrev pub place_at : (queue : Octets) (k : ℕ) → Octets
place_at queue k = part (place_size * k) place_size queue

abbrev pub item_of : Kind → (batch : Octets) (k : ℕ) → Octets
item_of kind batch k = part (item_size kind * k) (item_size kind) batch

-- the items of a batch in their places, one behind the other
abbrev pub places_of : Kind → (batch : Octets) (count : ℕ) → Octets
places_of kind batch count = joined (λ k. placed kind (item_of kind batch k)) count

-- the kind of a place, and its item with what follows it
abbrev pub kind_in : (place : Octets) → Kind
kind_in place = cond (eqb (get_or place 0 0) (kind_octet vector)) vector triplet

abbrev pub is_vector : Kind → Bool
is_vector vector = true
is_vector triplet = false

abbrev pub item_in : (place : Octets) → Octets
item_in place = drop kind_size place

-- ---- a run (document 02's word): one authentication with an item

-- what is asked, the response that passes, and the keys that a pass gives
pub record Run : Type 0 where
  pub rand : Octets
  pub autn : Octets
  pub response : Octets
  pub ck : Octets
  pub ik : Octets
  pub kc : Octets

unfoldable pub vector_run : Vector → Run
vector_run v = record { rand = v.rand; autn = v.autn; response = v.xres; ck = v.ck; ik = v.ik; kc = zeros kc_size }

-- 'a triplet run asks with zero AUTN, compares 4 bytes with SRES and gives Kc'
unfoldable pub triplet_run : Triplet → Run
triplet_run t = record {
  rand = t.rand;
  autn = zeros autn_size;
  response = t.sres;
  ck = zeros ck_size;
  ik = zeros ik_size;
  kc = t.kc;
}

abbrev pub run_of : Kind → (item : Octets) → Run
run_of vector item = vector_run (read_vector item)
run_of triplet item = triplet_run (read_triplet item)

-- the run with what is in a place
abbrev pub run_in : (place : Octets) → Run
run_in place = run_of (kind_in place) (item_in place)

-- the octets of the response that passes
abbrev pub res_size_of : Kind → ℕ
res_size_of vector = res_size
res_size_of triplet = sres_size

-- ---- the record

-- Idle: no request; Asked: a request is not answered yet; Resyncing: a synchronisation failure was handed on
pub data State : Type 0 where
  idle asked resyncing : State

pub record Vlr : Type 0 where
  pub state : State
  pub held : ℕ  -- how many items are held
  -- the sixteen places of the node (document 01: node place), one behind the other: the items held, oldest first, then zeros
  pub queue : Octets
  pub out : Octets  -- the place of the outstanding item, zeros when none

-- nothing is outstanding, nothing is held
abbrev pub no_item : Octets
no_item = zeros place_size

abbrev pub empty_queue : Octets
empty_queue = zeros (place_size * most_held)

abbrev pub new_vlr : Vlr
new_vlr = record { state = idle; held = 0; queue = empty_queue; out = no_item }

-- ---- states

abbrev pub is_idle : State → Bool
is_idle idle = true
is_idle asked = false
is_idle resyncing = false

abbrev pub is_asked : State → Bool
is_asked idle = false
is_asked asked = true
is_asked resyncing = false

abbrev pub is_resyncing : State → Bool
is_resyncing idle = false
is_resyncing asked = false
is_resyncing resyncing = true

-- ---- refusals

-- the octet of this kind, and zeros behind the item
abbrev pub holds : Kind → (place : Octets) → Bool
holds kind place = eqb (get_or place 0 0) (kind_octet kind) && all_zero (drop (item_size kind) (item_in place))

unfoldable pub good_place : (place : Octets) → Bool
good_place place = holds vector place || holds triplet place

-- the first n places
unfoldable pub good_places : (queue : Octets) (n : ℕ) → Bool
good_places queue zero = true
good_places queue (suc n) = good_places queue n && good_place (place_at queue n)

-- a valid record: refusal 1 does not apply to it. Places in use are good, and unused ones zero; the outstanding one is in use in Asked
unfoldable pub valid_vlr : Vlr → Bool
valid_vlr vlr =
    leb vlr.held most_held
    && good_places vlr.queue vlr.held
    && all_zero (drop (place_size * vlr.held) vlr.queue)
    && cond (is_asked vlr.state) (good_place vlr.out) (all_zero vlr.out)

-- a count of 1 to 5: refusal 2 does not apply
unfoldable pub count_fits : (count : ℕ) → Bool
count_fits count = leb 1 count && leb count most_vectors

-- `count` whole items: refusal 3 does not apply
unfoldable pub batch_fits : Kind → (count : ℕ) (batch : Octets) → Bool
batch_fits kind count batch = eqb (length batch) (item_size kind * count)

-- what a batch of this kind must hold: an item may have any octets
abbrev pub batch_good : Kind → (batch : Octets) → Bool
batch_good kind batch = true

-- which response length goes with what is out; with nothing out that of a vector
abbrev pub response_fits : Vlr → (size : ℕ) → Bool
response_fits vlr size = eqb size (res_size_of (kind_in vlr.out))

-- the first of 1, 2, 3, 1 and 7 that applies, else `rest`. `counted`, `sized`: the count and the lent part are as named; `good`: so is what
-- a batch holds; `named`: the operation is named for the state and for what is out
unfoldable pub refusal_or : Vlr → (counted sized good named : Bool) (rest : ℕ) → ℕ
refusal_or vlr counted sized good named rest =
    cond (not (valid_vlr vlr)) 1
    (cond (not counted) 2
    (cond (not sized) 3
    (cond (not good) 1
    (cond (not named) 7
    rest))))

-- ---- the answer

pub data Outcome : Type 0 where
  -- Store, Ask, Again, Sync, Renew, Timeout, Abandon; Answer with RES equal to XRES or SRES
  done passed : Outcome
  -- Reject, and Answer with another RES
  cause : (number : ℕ) → Outcome
  refused : (number : ℕ) → Outcome

-- document 01's refusal number, 0 for none
abbrev pub refusal_of : Outcome → ℕ
refusal_of done = 0
refusal_of passed = 0
refusal_of (cause number) = 0
refusal_of (refused number) = number

-- and its cause, 0 for none
abbrev pub cause_of : Outcome → ℕ
cause_of done = 0
cause_of passed = 0
cause_of (cause number) = number
cause_of (refused number) = 0

pub record VlrAnswer : Type 0 where
  pub outcome : Outcome
  pub vlr : Vlr  -- the next record
  pub rand : Octets
  pub autn : Octets
  pub auts : Octets
  pub ck : Octets
  pub ik : Octets
  pub kc : Octets

-- an outcome that gives no octets
abbrev pub no_octets : Outcome → Vlr → VlrAnswer
no_octets outcome vlr = record {
  outcome = outcome;
  vlr = vlr;
  rand = zeros rand_size;
  autn = zeros autn_size;
  auts = zeros auts_size;
  ck = zeros ck_size;
  ik = zeros ik_size;
  kc = zeros kc_size;
}

-- a refusal leaves the record and gives no octets; 0 is none
unfoldable pub unless_refused : Vlr → (refusal : ℕ) (answer : VlrAnswer) → VlrAnswer
unless_refused vlr zero answer = answer
unless_refused vlr (suc n) answer = no_octets (refused (suc n)) vlr

-- ---- records that follow

-- places are added behind those in use
unfoldable pub queued : Vlr → (count : ℕ) (places : Octets) → Vlr
queued vlr count places = record {
  state = vlr.state;
  held = vlr.held + count;
  queue = take (place_size * vlr.held) vlr.queue ++ places ++ drop (place_size * vlr.held + length places) vlr.queue;
  out = vlr.out;
}

-- the oldest becomes outstanding, the others move forward, and the place freed at the end is zero
unfoldable pub oldest_out : Vlr → Vlr
oldest_out vlr = record {
  state = asked;
  held = vlr.held - 1;
  queue = drop place_size vlr.queue ++ zeros place_size;
  out = take place_size vlr.queue;
}

-- another state, where nothing is outstanding; what is held is kept
unfoldable pub none_out : State → Vlr → Vlr
none_out state vlr = record { state = state; held = vlr.held; queue = vlr.queue; out = no_item }

-- the run with the outstanding item
abbrev pub out_run : Vlr → Run
out_run vlr = run_in vlr.out

-- RAND and AUTN of the outstanding item are given
unfoldable pub request : Vlr → VlrAnswer
request vlr = record {
  outcome = done;
  vlr = vlr;
  rand = (out_run vlr).rand;
  autn = (out_run vlr).autn;
  auts = zeros auts_size;
  ck = zeros ck_size;
  ik = zeros ik_size;
  kc = zeros kc_size;
}

module _ (vlr : Vlr) where
  -- ---- Store (not in Resyncing) adds a batch behind

  unfoldable pub store_refusal : Kind → (count : ℕ) (batch : Octets) → ℕ
  store_refusal kind count batch =
      refusal_or vlr (count_fits count) (batch_fits kind count batch) (batch_good kind batch) (not (is_resyncing vlr.state))
      (cond (leb (vlr.held + count) most_held) 0 9)

  unfoldable pub store : Kind → (count : ℕ) (batch : Octets) → VlrAnswer
  store kind count batch =
      unless_refused vlr (store_refusal kind count batch) (no_octets done (queued vlr count (places_of kind batch count)))

  -- ---- Ask (Idle) takes the oldest and becomes Asked; Again (Asked) gives the same RAND and AUTN

  unfoldable pub ask_refusal : ℕ
  ask_refusal = refusal_or vlr true true true (is_idle vlr.state) (cond (eqb vlr.held 0) 8 0)

  unfoldable pub ask : VlrAnswer
  ask = unless_refused vlr ask_refusal (request (oldest_out vlr))

  -- of each operation in Asked; `sized`: its lent part, if any, has the length named
  unfoldable pub asked_refusal : (sized : Bool) → ℕ
  asked_refusal sized = refusal_or vlr true sized true (is_asked vlr.state) 0

  unfoldable pub again : VlrAnswer
  again = unless_refused vlr (asked_refusal true) (request vlr)

  -- ---- Answer (Asked): RES equal to XRES passes with CK and IK, or to SRES with Kc; else cause 2; Idle

  unfoldable pub res_right : (res : Octets) → Bool
  res_right res = equal res (out_run vlr).response

  unfoldable pub pass_if : (right : Bool) → VlrAnswer
  pass_if true = record {
    outcome = passed;
    vlr = none_out idle vlr;
    rand = zeros rand_size;
    autn = zeros autn_size;
    auts = zeros auts_size;
    ck = (out_run vlr).ck;
    ik = (out_run vlr).ik;
    kc = (out_run vlr).kc;
  }
  pass_if false = no_octets (cause 2) (none_out idle vlr)

  unfoldable pub answer : (res : Octets) → VlrAnswer
  answer res = unless_refused vlr (asked_refusal (response_fits vlr (length res))) (pass_if (res_right res))

  -- ---- Reject (Asked): cause 1; Idle

  unfoldable pub reject : VlrAnswer
  reject = unless_refused vlr (asked_refusal true) (no_octets (cause 1) (none_out idle vlr))

  -- ---- Sync (Asked, and a vector is out) gives RAND with AUTS; Resyncing

  unfoldable pub sync_refusal : (auts : Octets) → ℕ
  sync_refusal auts = refusal_or vlr true (eqb (length auts) auts_size) true (is_asked vlr.state && is_vector (kind_in vlr.out)) 0

  unfoldable pub resync_request : (auts : Octets) → VlrAnswer
  resync_request auts = record {
    outcome = done;
    vlr = none_out resyncing vlr;
    rand = (out_run vlr).rand;
    autn = zeros autn_size;
    auts = auts;
    ck = zeros ck_size;
    ik = zeros ik_size;
    kc = zeros kc_size;
  }

  unfoldable pub sync : (auts : Octets) → VlrAnswer
  sync auts = unless_refused vlr (sync_refusal auts) (resync_request auts)

  -- ---- Renew (Resyncing) drops all that is held and stores the batch; Idle

  unfoldable pub renew_refusal : Kind → (count : ℕ) (batch : Octets) → ℕ
  renew_refusal kind count batch =
      refusal_or vlr (count_fits count) (batch_fits kind count batch) (batch_good kind batch) (is_resyncing vlr.state) 0

  unfoldable pub renew : Kind → (count : ℕ) (batch : Octets) → VlrAnswer
  renew kind count batch =
      unless_refused vlr (renew_refusal kind count batch) (no_octets done (queued new_vlr count (places_of kind batch count)))

  -- ---- Timeout (Resyncing): Idle, what is held is kept

  unfoldable pub timeout_refusal : ℕ
  timeout_refusal = refusal_or vlr true true true (is_resyncing vlr.state) 0

  unfoldable pub timeout : VlrAnswer
  timeout = unless_refused vlr timeout_refusal (no_octets done (none_out idle vlr))

  -- ---- Abandon (Asked): Idle

  unfoldable pub abandon : VlrAnswer
  abandon = unless_refused vlr (asked_refusal true) (no_octets done (none_out idle vlr))
