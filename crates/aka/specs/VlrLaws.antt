-- What the VLR's answers promise, sentence by sentence of document 01, 'What the node does' and 'Refusal numbers', and of document 02,
-- #102. These laws rule out a node that does nothing, and a made-up held count. Assumes nothing.
use Rattle.std.specs.Prelude.{ℕ, suc, ◌+◌, ◌*◌, ◌≤◌, ◌<◌, true, false, ◌⊎◌, ◌↔◌, ◌≡◌, length, get_or}
use Rattle.octets.specs.Octets.{Octets, zeros}
use Rattle.aka.specs.Layout.{Kind, vector, triplet, kind_octet, item_size, rand_size, ck_size, ik_size, autn_size, auts_size, kc_size}
use Rattle.aka.specs.Layout.{most_vectors}
use Rattle.aka.specs.Vlr.{Vlr, VlrAnswer, State, idle, asked, resyncing, done, passed, cause, refused, refusal_of, cause_of, most_held}
use Rattle.aka.specs.Vlr.{place_size, placed, place_at, item_of, kind_in, item_in, Run, run_of, run_in, res_size_of, no_item}
use Rattle.aka.specs.Vlr.{new_vlr, batch_good}
use Rattle.aka.specs.Vlr.{valid_vlr, no_octets, out_run}
use Rattle.aka.specs.Calls.{Call, reply, store, renew, ask, again, answer, sync, reject, timeout, abandon}

-- queue and outstanding place have their sizes (the code's types see to it)
pub record VlrShaped (vlr : Vlr) : Type 0 where
  pub queue : length vlr.queue ≡ place_size * most_held
  pub out : length vlr.out ≡ place_size

-- a place in use has the octet of its kind, and zeros behind the item
abbrev pub Holds : Kind → (place : Octets) → Type 0
Holds kind place = (get_or place 0 0 ≡ kind_octet kind) × ((i : ℕ) → item_size kind ≤ i → get_or (item_in place) i 0 ≡ 0)

abbrev pub Good : (place : Octets) → Type 0
Good place = Holds vector place ⊎ Holds triplet place

-- ---- what a call must be so that it is not refused

-- what is named for a call: the count (else refusal 2), the length of the lent part (3), what a batch holds (1), the node's state with what
-- is out (7), how many are held (8, 9). Each field is a statement, hence `Type 1`
pub record Terms : Type 1 where
  pub count : Type 0
  pub part : Type 0
  pub contents : Type 0
  pub state : Type 0
  pub held : Type 0

-- nothing is named
abbrev pub Any : Type 0
Any = Unit {0}

-- of a call that lends no batch
abbrev terms : (part state held : Type 0) → Terms
terms part state held = record { count = Any; part = part; contents = Any; state = state; held = held }

-- a batch has a count of 1 to 5, and as many items of its kind
abbrev batch_terms : Kind → (count : ℕ) (batch : Octets) (state held : Type 0) → Terms
batch_terms kind count batch state held = record {
  count = (1 ≤ count) × (count ≤ most_vectors);
  part = length batch ≡ item_size kind * count;
  contents = batch_good kind batch ≡ true;
  state = state;
  held = held;
}

-- of a node in state s that holds n items; `out` is the kind of what is out, a vector with nothing out
module _ (s : State) (n : ℕ) (out : Kind) where
  abbrev pub terms_of : Call → Terms
  terms_of (store kind count batch) = batch_terms kind count batch ((s ≡ idle) ⊎ (s ≡ asked)) (n + count ≤ most_held)
  terms_of (renew kind count batch) = batch_terms kind count batch (s ≡ resyncing) Any
  terms_of ask = terms Any (s ≡ idle) (0 < n)
  terms_of again = terms Any (s ≡ asked) Any
  terms_of (answer res) = terms (length res ≡ res_size_of out) (s ≡ asked) Any
  terms_of (sync auts) = terms (length auts ≡ auts_size) ((s ≡ asked) × (out ≡ vector)) Any
  terms_of reject = terms Any (s ≡ asked) Any
  terms_of timeout = terms Any (s ≡ resyncing) Any
  terms_of abandon = terms Any (s ≡ asked) Any

-- none of the refusals 2, 3, 7, 8 and 9 applies, nor 1 for what a batch holds
pub record Due (t : Terms) : Type 0 where
  pub count : t.count
  pub part : t.part
  pub contents : t.contents
  pub state : t.state
  pub held : t.held

-- ---- what an answer gives, and what the next record holds

-- the octets of an answer
pub record Given : Type 0 where
  pub rand : Octets
  pub autn : Octets
  pub auts : Octets
  pub ck : Octets
  pub ik : Octets
  pub kc : Octets

abbrev pub given : VlrAnswer → Given
given a = record { rand = a.rand; autn = a.autn; auts = a.auts; ck = a.ck; ik = a.ik; kc = a.kc }

-- 'answer bytes not named for a case are zero': those of a case without octets
abbrev pub nothing : Given
nothing = record {
  rand = zeros rand_size;
  autn = zeros autn_size;
  auts = zeros auts_size;
  ck = zeros ck_size;
  ik = zeros ik_size;
  kc = zeros kc_size;
}

-- the request to the card: RAND and AUTN
abbrev pub request_of : Run → Given
request_of run = record {
  rand = run.rand;
  autn = run.autn;
  auts = zeros auts_size;
  ck = zeros ck_size;
  ik = zeros ik_size;
  kc = zeros kc_size;
}

-- a synchronisation failure handed on to the centre: RAND with AUTS
abbrev pub failure_of : Run → (auts : Octets) → Given
failure_of run auts = record {
  rand = run.rand;
  autn = zeros autn_size;
  auts = auts;
  ck = zeros ck_size;
  ik = zeros ik_size;
  kc = zeros kc_size;
}

-- the keys of a pass
abbrev pub keys_of : Run → Given
keys_of run = record {
  rand = zeros rand_size;
  autn = zeros autn_size;
  auts = zeros auts_size;
  ck = run.ck;
  ik = run.ik;
  kc = run.kc;
}

-- the next record is in this state, with nothing outstanding ('Leaving Asked erases the outstanding vector'), and holds what was held
pub record Left (to : State) (vlr next : Vlr) : Type 0 where
  pub state : next.state ≡ to
  pub out : next.out ≡ no_item
  pub held : next.held ≡ vlr.held
  pub queue : next.queue ≡ vlr.queue

module _ (vlr : Vlr) (a : VlrAnswer) where
  -- 'Store adds a batch behind.'
  pub record Stored (kind : Kind) (count : ℕ) (batch : Octets) : Type 0 where
    pub outcome : a.outcome ≡ done
    pub gives : given a ≡ nothing
    pub state : a.vlr.state ≡ vlr.state
    pub out : a.vlr.out ≡ vlr.out
    pub held : a.vlr.held ≡ vlr.held + count
    pub before : (k : ℕ) → k < vlr.held → place_at a.vlr.queue k ≡ place_at vlr.queue k
    pub behind : (k : ℕ) → k < count → place_at a.vlr.queue (vlr.held + k) ≡ placed kind (item_of kind batch k)

  -- 'Renew drops all held vectors and stores the batch; Idle.'
  pub record Renewed (kind : Kind) (count : ℕ) (batch : Octets) : Type 0 where
    pub outcome : a.outcome ≡ done
    pub gives : given a ≡ nothing
    pub state : a.vlr.state ≡ idle
    pub out : a.vlr.out ≡ no_item
    pub held : a.vlr.held ≡ count
    pub batch_held : (k : ℕ) → k < count → place_at a.vlr.queue k ≡ placed kind (item_of kind batch k)

  -- 'Ask takes the oldest and becomes Asked.'
  pub record Asks : Type 0 where
    pub outcome : a.outcome ≡ done
    pub gives : given a ≡ request_of (run_in (place_at vlr.queue 0))
    pub state : a.vlr.state ≡ asked
    pub out : a.vlr.out ≡ place_at vlr.queue 0
    pub held : suc a.vlr.held ≡ vlr.held
    pub rest : (k : ℕ) → suc k < most_held → place_at a.vlr.queue k ≡ place_at vlr.queue (suc k)

  -- 'Again gives the same RAND and AUTN.'
  pub record AsksAgain : Type 0 where
    pub outcome : a.outcome ≡ done
    pub gives : given a ≡ request_of (out_run vlr)
    pub unchanged : a.vlr ≡ vlr

  -- 'Answer: RES equal to XRES passes with CK and IK, else cause 2; Idle'; of a triplet SRES and Kc are looked at in their place
  pub record Answers (res : Octets) : Type 0 where
    pub right : res ≡ (out_run vlr).response → (a.outcome ≡ passed) × (given a ≡ keys_of (out_run vlr))
    pub wrong : (res ≡ (out_run vlr).response → ⊥) → (a.outcome ≡ cause 2) × (cause_of a.outcome ≡ 2) × (given a ≡ nothing)
    pub next : Left idle vlr a.vlr

  -- 'Sync gives RAND with AUTS; Resyncing.'
  pub record Syncs (auts : Octets) : Type 0 where
    pub outcome : a.outcome ≡ done
    pub gives : given a ≡ failure_of (out_run vlr) auts
    pub next : Left resyncing vlr a.vlr

  -- 'Reject: cause 1; Idle.'
  pub record Rejects : Type 0 where
    pub outcome : a.outcome ≡ cause 1
    pub number : cause_of a.outcome ≡ 1
    pub gives : given a ≡ nothing
    pub next : Left idle vlr a.vlr

  -- 'Timeout: Idle, held vectors kept. Abandon: Idle.'
  pub record Leaves : Type 0 where
    pub outcome : a.outcome ≡ done
    pub gives : given a ≡ nothing
    pub next : Left idle vlr a.vlr

  abbrev pub Does : Call → Type 0
  Does (store kind count batch) = Stored kind count batch
  Does (renew kind count batch) = Renewed kind count batch
  Does ask = Asks
  Does again = AsksAgain
  Does (answer res) = Answers res
  Does (sync auts) = Syncs auts
  Does reject = Rejects
  Does timeout = Leaves
  Does abandon = Leaves

-- ---- one call and its answer

module _ (vlr : Vlr) (call : Call) (a : VlrAnswer) where
  abbrev named : Terms
  named = terms_of vlr.state vlr.held (kind_in vlr.out) call

  pub record VlrLaws : Type 0 where
    -- 'The lowest number that applies is given, and only when it applies.'
    pub refusal1 : valid_vlr vlr ≡ false → a.outcome ≡ refused 1
    pub refusal2 : valid_vlr vlr ≡ true → (named.count → ⊥) → a.outcome ≡ refused 2
    pub refusal3 : valid_vlr vlr ≡ true → named.count → (named.part → ⊥) → a.outcome ≡ refused 3
    pub contents1 : valid_vlr vlr ≡ true → named.count → named.part → (named.contents → ⊥) → a.outcome ≡ refused 1
    pub refusal7 : valid_vlr vlr ≡ true → named.count → named.part → named.contents → (named.state → ⊥) → a.outcome ≡ refused 7
    pub not_refused : (refusal_of a.outcome ≡ 0) ↔ ((valid_vlr vlr ≡ true) × Due named)
    -- in document 01's numbers: 1, 2, 3, 7, 8 and 9
    pub number : (n : ℕ) → a.outcome ≡ refused n → refusal_of a.outcome ≡ n
    -- 'Record and lent buffers stay as they were; every other field of the answer, number or byte, is zero'
    pub stays : (refusal_of a.outcome ≡ 0 → ⊥) → a ≡ no_octets a.outcome vlr
    pub cause0 : ((n : ℕ) → a.outcome ≡ cause n → ⊥) → cause_of a.outcome ≡ 0
    -- otherwise the call does what document 01 says of it
    pub does : VlrShaped vlr → refusal_of a.outcome ≡ 0 → Does vlr a call
    -- a valid record is followed by a valid record
    pub stays_valid : VlrShaped vlr → valid_vlr vlr ≡ true → valid_vlr a.vlr ≡ true
    pub stays_shaped : VlrShaped vlr → VlrShaped a.vlr

pub record VlrPromise : Type 0 where
  pub laws : (vlr : Vlr) (call : Call) → VlrLaws vlr call (reply vlr call)
  -- 'Ask with nothing held', 'Store past 16 held'
  pub refusal8 : (vlr : Vlr) → valid_vlr vlr ≡ true → vlr.state ≡ idle → vlr.held ≡ 0 → (reply vlr ask).outcome ≡ refused 8
  pub refusal9 : (vlr : Vlr) (kind : Kind) (count : ℕ) (batch : Octets) → valid_vlr vlr ≡ true → (1 ≤ count) × (count ≤ most_vectors)
      → length batch ≡ item_size kind * count → batch_good kind batch ≡ true → (vlr.state ≡ idle) ⊎ (vlr.state ≡ asked)
      → most_held < vlr.held + count → (reply vlr (store kind count batch)).outcome ≡ refused 9
  -- refusal 1: 'held count past its range, unused node place or absent outstanding vector not zero'; the kind 0 or 1, 'and zeros follow a
  -- triplet there'
  pub valid : (vlr : Vlr) → (valid_vlr vlr ≡ true)
      ↔ ((vlr.held ≤ most_held) × ((k : ℕ) → k < vlr.held → Good (place_at vlr.queue k))
      × ((i : ℕ) → place_size * vlr.held ≤ i → get_or vlr.queue i 0 ≡ 0)
      × (vlr.state ≡ asked → Good vlr.out)
      × ((vlr.state ≡ asked → ⊥) → (i : ℕ) → get_or vlr.out i 0 ≡ 0))
  pub new_valid : valid_vlr new_vlr ≡ true
  pub new_shaped : VlrShaped new_vlr
  -- an item in its place is of its kind, and its run is that of the item: a triplet is asked and compared as a triplet
  pub placed_kind : (kind : Kind) (item : Octets) → kind_in (placed kind item) ≡ kind
  pub placed_run : (kind : Kind) (item : Octets) → length item ≡ item_size kind → run_in (placed kind item) ≡ run_of kind item
  -- what passes, XRES or the 4 octets of SRES, has the length that is named for a response
  pub response_size : (kind : Kind) (item : Octets) → length item ≡ item_size kind → length (run_of kind item).response ≡ res_size_of kind
