-- The order of use at one VLR, proved from the laws of its answers (`VlrLaws`) and not from its definitions: an invariant, `Agrees`, that
-- each call keeps. Assumes nothing.
use Prim.Native.Nat.{ℕ, zero, suc, ◌+◌, ◌-◌, ◌*◌, ◌≤◌, ◌<◌}
use mathlib.Core.Bool.{Bool, true, false, not, cond, or-true, true≢false}
use mathlib.Core.List.{List, [], ◌∷◌, ◌++◌}
use mathlib.Core.Logic.{◌↔◌, ⊎_elim}
use mathlib.Core.Option.{Option, none, some}
use mathlib.Core.Path.{◌≡◌, refl, sym, ap, ap₂, ◌∙◌, subst, subst₂}
use native.Mathlib.Nat.{suc-add, eq-or-lt_of_le}
use native.Mathlib.Omega.{arith}
use borrow.Author.Tests.{ltb-true, ltb-false, eq-eqb, ne_eqb, eqb-true, eqb-false}
use lib.Dec.{eqb, ltb}
use lib.ListN.{length, take, drop, length-append, length-drop, take-append-drop}
use lib.Seq.{drop-drop, take-add}
use Rattle.octets.specs.Octets.{Octets, zeros, part}
use Rattle.octets.proofs.Absurd.{zero_not_one}
use Rattle.octets.proofs.Parts.{past}
use Rattle.aka.specs.Layout.{Kind, item_size}
use Rattle.aka.specs.Vlr.{Vlr, VlrAnswer, State, refusal_of, most_held, place_size, place_at, item_of, places_of, placed, kind_in}
use Rattle.aka.specs.Vlr.{Run, run_in, no_item, new_vlr, valid_vlr}
use Rattle.aka.specs.Vlr as node
use Rattle.aka.specs.Calls.{Call, reply, store, renew, ask, again, answer, sync, reject, timeout, abandon}
use Rattle.aka.specs.Demand3.{Each}
use Rattle.aka.specs.VlrLaws.{VlrShaped, terms_of, Due, given, nothing, request_of, Left, Stored, Renewed, Asks, Does, VlrLaws}
use Rattle.aka.specs.OrderOfUse.{Phase, idle, asked, resyncing, Way, requested, dropped, Gone, History, nothing_yet, positions, is_in}
use Rattle.aka.specs.OrderOfUse.{is_unused, unused_from, unused, oldest, unanswered, enters, leave, requests, adds, Handled, is_taken}
use Rattle.aka.specs.OrderOfUse.{after, state_of, places_at, out_of, record_of, OfRun, Gives, Rising, Meets, InOrder, answers}
use Rattle.aka.specs.OrderOfUse.{OrderOfUse}
use Rattle.aka.proofs.Lists.{each_map}
use Rattle.aka.proofs.Held.{zeros_are, part_before}
use Rattle.aka.proofs.VlrPlaces.{length_places, place_of}
use Rattle.aka.proofs.VlrRecords.{valid_true, true_valid, new_valid, new_shaped}
use Rattle.aka.proofs.VlrLaws.{laws}

-- ---- lists

-- p, p + 1, .., n of them
unfoldable up_from : (p n : ℕ) → List ℕ
up_from p zero = []
up_from p (suc n) = p ∷ up_from (suc p) n

length_up : (p n : ℕ) → length (up_from p n) ≡ n
unfolding up_from
length_up p zero = refl
length_up p (suc n) = ap suc (length_up (suc p) n)

first_up : (p n : ℕ) → 0 < n → oldest (up_from p n) ≡ some p
unfolding up_from
first_up p zero h = absurd (omega arith)
first_up p (suc n) h = refl

-- ---- places

-- the first n places of a queue are those stored from a position on
held_are : (stored queue : Octets) (n low : ℕ) → ((k : ℕ) → k < n → place_at queue k ≡ place_at stored (low + k))
    → take (place_size * n) queue ≡ places_at stored (up_from low n)
unfolding up_from places_at
held_are stored queue zero low each = refl
held_are stored queue (suc n) low each =
    let first : place_at queue 0 ≡ place_at stored (low + 0) = each 0 (omega arith) in
    let size : place_size * suc n ≡ place_size + place_size * n = omega arith in
    let here : low + 0 ≡ low = omega arith in
    ap (λ (k : ℕ). take k queue) size
    ∙ take-add place_size (place_size * n) queue
    ∙ ap₂ (λ (x y : Octets). x ++ y)
    (first ∙ ap (place_at stored) here)
    (held_are stored (drop place_size queue) n (suc low) (λ k lt.
    let at : place_size + place_size * k ≡ place_size * suc k = omega arith in
    let next : low + suc k ≡ suc low + k = omega arith in
    ap (take place_size) (drop-drop (place_size * k) place_size queue ∙ ap (λ (m : ℕ). drop m queue) at)
    ∙ each (suc k) (omega arith)
    ∙ ap (place_at stored) next))

-- of what is stored, the places behind it and those before
module _ (stored batch : Octets) (total : ℕ) (size : length stored ≡ place_size * total) where
  behind_stored : (j : ℕ) → place_at batch j ≡ place_at (stored ++ batch) (total + j)
  behind_stored j =
      let at : place_size * total + place_size * j ≡ place_size * (total + j) = omega arith in
      sym (past stored batch (place_size * total) (place_size * j) place_size size) ∙ ap (λ (m : ℕ). part m place_size (stored ++ batch)) at

  before_batch : (p : ℕ) → p < total → place_at stored p ≡ place_at (stored ++ batch) p
  before_batch p lt = sym (part_before (place_size * p) place_size stored batch (omega arith))

-- ---- which positions are unused

skip : (h : History) (gone left p : ℕ) → ((q : ℕ) → p ≤ q → q < p + gone → is_unused h q ≡ false)
    → unused_from h p (gone + left) ≡ unused_from h (p + gone) left
unfolding unused_from
skip h zero left p other =
    let all : 0 + left ≡ left = omega arith in
    let here : p ≡ p + 0 = omega arith in
    ap₂ (unused_from h) here all
skip h (suc gone) left p other =
    let at : p + suc gone ≡ suc p + gone = omega arith in
    ap (unused_from h p) (suc-add gone left)
    ∙ rw (other p (omega arith) (omega arith))
    (skip h gone left (suc p) (λ q a b. other q (omega arith) (omega arith)) ∙ ap (λ (k : ℕ). unused_from h k left) (sym at))

all_unused : (h : History) (n p : ℕ) → ((q : ℕ) → p ≤ q → is_unused h q ≡ true) → unused_from h p n ≡ up_from p n
unfolding unused_from up_from
all_unused h zero p each = refl
all_unused h (suc n) p each =
    rw (each p (omega arith)) (ap (λ (l : List ℕ). p ∷ l) (all_unused h n (suc p) (λ q a. each q (omega arith))))

not_in : (p : ℕ) (l : List ℕ) → Each (λ q. q < p) l → is_in p l ≡ false
unfolding is_in
not_in p [] e = refl
not_in p (q ∷ l) e = rw (ne_eqb p q (λ same. let lt = e.0 in omega arith)) (not_in p l e.1)

-- ---- what has left: the positions below `low`, in their order

pub record Cleared (gone : List Gone) (low : ℕ) : Type 0 where
  pub rising : Rising (positions gone)
  pub earlier : Each (λ q. q < low) (positions gone)
  pub all : (p : ℕ) → p < low → is_in p (positions gone) ≡ true

-- the next one leaves
next_leaves : (way : Way) (gone : List Gone) (low : ℕ) → Cleared gone low
    → Cleared (record { position = low; way = way } ∷ gone) (suc low)
unfolding is_in
next_leaves way gone low c = record {
  rising = (c.earlier, c.rising);
  earlier = (omega arith, each_map (λ q. q < low) (λ q. q < suc low) (λ q lt. omega arith) (positions gone) c.earlier);
  all = λ p lt. ⊎_elim
      (λ same. rw (eq-eqb p low same))
      (λ below. rw (c.all p below) (or-true (eqb p low)))
      (eq-or-lt_of_le (omega arith));
}

-- and so the next n
first_leave : (way : Way) (n : ℕ) (gone : List Gone) (low : ℕ) → Cleared gone low → Cleared (leave way (up_from low n) gone) (low + n)
unfolding leave up_from
first_leave way zero gone low c = let here : low ≡ low + 0 = omega arith in subst (Cleared gone) here c
first_leave way (suc n) gone low c =
    let here : suc low + n ≡ low + suc n = omega arith in
    let step : List Gone = record { position = low; way = way } ∷ gone in
    subst (Cleared (leave way (up_from (suc low) n) step)) here (first_leave way n step (suc low) (next_leaves way gone low c))

-- those below have left, the others are unused
module _ (h : History) (low : ℕ) (c : Cleared h.gone low) where
  used : (p : ℕ) → p < low → is_unused h p ≡ false
  unfolding is_unused
  used p lt = ap not (c.all p lt)

  waiting : (p : ℕ) → low ≤ p → is_unused h p ≡ true
  unfolding is_unused
  waiting p le = ap not
      (not_in p (positions h.gone)
      (each_map (λ q. q < low) (λ q. q < p) (λ q lt. omega arith) (positions h.gone) c.earlier))

-- ---- the invariant

-- the item whose request is unanswered has been stored
abbrev Known : (total : ℕ) → Phase → Type 0
Known total idle = Unit {0}
Known total (asked p) = p < total
Known total resyncing = Unit {0}

-- `low` is the position of the oldest item held: those before it have left, those from it on are held
pub record Agrees (h : History) (vlr : Vlr) : Type 0 where
  pub low : ℕ
  pub meets : low + vlr.held ≡ h.total
  pub size : length h.stored ≡ place_size * h.total
  pub valid : valid_vlr vlr ≡ true
  pub shaped : VlrShaped vlr
  pub places : (k : ℕ) → k < vlr.held → place_at vlr.queue k ≡ place_at h.stored (low + k)
  pub state : vlr.state ≡ state_of h.phase
  pub out : vlr.out ≡ out_of h.stored h.phase
  pub known : Known h.total h.phase
  pub cleared : Cleared h.gone low

pub new_agrees : Agrees nothing_yet new_vlr
new_agrees = record {
  low = 0;
  meets = refl;
  size = refl;
  valid = true_valid new_vlr new_valid;
  shaped = new_shaped;
  places = λ k lt. absurd (omega arith);
  state = refl;
  out = refl;
  known = tt;
  cleared = record { rising = tt; earlier = tt; all = λ p lt. absurd (omega arith) };
}

-- the record is what the history tells
module _ (h : History) (vlr : Vlr) (a : Agrees h vlr) where
  unused_are : unused h ≡ up_from a.low vlr.held
  unused_are =
      let here : 0 + a.low ≡ a.low = omega arith in
      ap (unused_from h 0) (sym a.meets)
      ∙ skip h a.low vlr.held 0 (λ q le lt. used h a.low a.cleared q (omega arith))
      ∙ ap (λ (p : ℕ). unused_from h p vlr.held) here
      ∙ all_unused h vlr.held a.low (waiting h a.low a.cleared)

  held_is : vlr.held ≡ length (unused h)
  held_is = sym (ap length unused_are ∙ length_up a.low vlr.held)

  queue_is : vlr.queue ≡ places_at h.stored (unused h) ++ zeros (place_size * (most_held - length (unused h)))
  queue_is =
      let n = place_size * vlr.held in
      let behind : length (drop n vlr.queue) ≡ place_size * (most_held - vlr.held)
      = length-drop n vlr.queue ∙ (let s = a.shaped.queue in omega arith) in
      sym (take-append-drop n vlr.queue)
      ∙ ap₂ (λ (x y : Octets). x ++ y)
      (held_are h.stored vlr.queue vlr.held a.low a.places ∙ ap (places_at h.stored) (sym unused_are))
      (zeros_are (drop n vlr.queue) (valid_true vlr a.valid).unused
      ∙ ap zeros (behind ∙ ap (λ (m : ℕ). place_size * (most_held - m)) held_is))

  pub record_is : vlr ≡ record_of h
  record_is = same a.state held_is queue_is a.out
    where
      same : {s s' : State} {n n' : ℕ} {q q' o o' : Octets} → s ≡ s' → n ≡ n' → q ≡ q' → o ≡ o'
          → ◌≡◌ {A = Vlr} (record { state = s; held = n; queue = q; out = o }) (record { state = s'; held = n'; queue = q'; out = o' })
      same e f g i = cc

-- ---- what a call that is taken leaves, and what it gives

-- the item whose request is unanswered is the outstanding one
of_unanswered : (h : History) (phase : Phase) (out : Octets) → state_of phase ≡ node.asked → Known h.total phase
    → out ≡ out_of h.stored phase → (P : Run → Type 0) → P (run_in out) → OfRun h (unanswered phase) P
of_unanswered h idle out is k e P p = zero_not_one (cc)
of_unanswered h (asked q) out is k e P p = (k, subst (λ (x : Octets). P (run_in x)) e p)
of_unanswered h resyncing out is k e P p = zero_not_one (cc)

-- places behind leave the outstanding one, and what is known of it
module _ (stored batch : Octets) (total count : ℕ) (size : length stored ≡ place_size * total) where
  same_out : (phase : Phase) → Known total phase → out_of stored phase ≡ out_of (stored ++ batch) phase
  same_out idle k = refl
  same_out (asked p) k = before_batch stored batch total size p k
  same_out resyncing k = refl

  still_known : (phase : Phase) → Known total phase → Known (total + count) phase
  still_known idle k = tt
  still_known (asked p) k = omega arith
  still_known resyncing k = tt

module _ (h : History) (vlr : Vlr) (a : Agrees h vlr) (answered : VlrAnswer) (valid : valid_vlr answered.vlr ≡ true)
    (shaped : VlrShaped answered.vlr) where
  abbrev next : Vlr
  next = answered.vlr

  -- the node has left Asked or Resyncing
  leaves : (phase : Phase) → out_of h.stored phase ≡ no_item → Known h.total phase → Left (state_of phase) vlr next
      → Agrees (enters h phase) next
  unfolding is_unused
  leaves phase absent known l =
      let same = l.held in
      let sum = a.meets in
      record {
        low = a.low;
        meets = omega arith;
        size = a.size;
        valid = valid;
        shaped = shaped;
        places = λ k lt. ap (λ (q : Octets). place_at q k) l.queue ∙ a.places k (omega arith);
        state = l.state;
        out = l.out ∙ sym absent;
        known = known;
        cleared = a.cleared;
      }

  module _ (kind : Kind) (count : ℕ) (batch : Octets) (long : length batch ≡ item_size kind * count) where
    abbrev places : Octets
    places = places_of kind batch count

    size_is : length (h.stored ++ places) ≡ place_size * (h.total + count)
    size_is = length-append h.stored places ∙ (let was = a.size in let more = length_places kind batch count long in omega arith)

    -- item j of the batch, behind all that was stored
    item_is : (j : ℕ) → j < count → placed kind (item_of kind batch j) ≡ place_at (h.stored ++ places) (h.total + j)
    item_is j lt = sym (place_of kind batch count long j lt) ∙ behind_stored h.stored places h.total a.size j

    store_leaves : Stored vlr answered kind count batch → Agrees (adds h (store kind count batch)) next
    store_leaves s =
        let more = s.held in
        let sum = a.meets in
        record {
          low = a.low;
          meets = omega arith;
          size = size_is;
          valid = valid;
          shaped = shaped;
          places = λ k lt. place k (ltb k vlr.held) refl lt;
          state = s.state ∙ a.state;
          out = s.out ∙ a.out ∙ same_out h.stored places h.total count a.size h.phase a.known;
          known = still_known h.stored places h.total count a.size h.phase a.known;
          cleared = a.cleared;
        }
      where
        place : (k : ℕ) (b : Bool) → ltb k vlr.held ≡ b → k < next.held
            → place_at next.queue k ≡ place_at (h.stored ++ places) (a.low + k)
        place k true e lt =
            let below = ltb-true k vlr.held e in
            let sum = a.meets in
            s.before k below ∙ a.places k below ∙ before_batch h.stored places h.total a.size (a.low + k) (omega arith)
        place k false e lt =
            let past_held = ltb-false k vlr.held e in
            let sum = a.meets in
            let more = s.held in
            let j = k - vlr.held in
            let here : k ≡ vlr.held + j = omega arith in
            let there : h.total + j ≡ a.low + k = omega arith in
            ap (place_at next.queue) here
            ∙ s.behind j (omega arith)
            ∙ item_is j (omega arith)
            ∙ ap (place_at (h.stored ++ places)) there

    renew_leaves : Renewed vlr answered kind count batch → Agrees (adds h (renew kind count batch)) next
    renew_leaves r =
        let sum = a.meets in
        let held = r.held in
        record {
          low = h.total;
          meets = omega arith;
          size = size_is;
          valid = valid;
          shaped = shaped;
          places = λ k lt. r.batch_held k (omega arith) ∙ item_is k (omega arith);
          state = r.state;
          out = r.out;
          known = tt;
          cleared = subst₂ (λ (ps : List ℕ) (low : ℕ). Cleared (leave dropped ps h.gone) low) (sym (unused_are h vlr a)) a.meets
              (first_leave dropped vlr.held h.gone a.low a.cleared);
        }

  module _ (some_held : 0 < vlr.held) (s : Asks vlr answered) where
    oldest_is : oldest (unused h) ≡ some a.low
    oldest_is = ap oldest (unused_are h vlr a) ∙ first_up a.low vlr.held some_held

    first_place : place_at vlr.queue 0 ≡ place_at h.stored a.low
    first_place = let here : a.low + 0 ≡ a.low = omega arith in a.places 0 some_held ∙ ap (place_at h.stored) here

    oldest_leaves : Agrees (requests h (some a.low)) next
    unfolding leave
    oldest_leaves =
        let sum = a.meets in
        let fewer = s.held in
        let most = (valid_true vlr a.valid).held in
        record {
          low = suc a.low;
          meets = omega arith;
          size = a.size;
          valid = valid;
          shaped = shaped;
          places = λ k lt.
              let at : a.low + suc k ≡ suc a.low + k = omega arith in
              s.rest k (omega arith) ∙ a.places (suc k) (omega arith) ∙ ap (place_at h.stored) at;
          state = s.state;
          out = s.out ∙ first_place;
          known = omega arith;
          cleared = next_leaves requested h.gone a.low a.cleared;
        }

    ask_leaves : Agrees (adds h ask) next
    ask_leaves = subst (λ (o : Option ℕ). Agrees (requests h o) next) (sym oldest_is) oldest_leaves

    ask_gives : Gives ask h answered
    ask_gives =
        let sum = a.meets in
        subst (λ (o : Option ℕ). OfRun h o (λ run. (answered.outcome ≡ node.done) × (given answered ≡ request_of run))) (sym oldest_is)
        (omega arith, (s.outcome, s.gives ∙ ap (λ (x : Octets). request_of (run_in x)) first_place))

  -- of the item whose request is unanswered
  of_out : vlr.state ≡ node.asked → (P : Run → Type 0) → P (run_in vlr.out) → OfRun h (unanswered h.phase) P
  of_out is P p = of_unanswered h h.phase vlr.out (sym a.state ∙ is) a.known a.out P p

  follows : (call : Call) → Due (terms_of vlr.state vlr.held (kind_in vlr.out) call) → Does vlr answered call
      → Gives call h answered × Agrees (adds h call) next
  follows (store kind count batch) due s = ((s.outcome, s.gives), store_leaves kind count batch due.part s)
  follows (renew kind count batch) due r = ((r.outcome, r.gives), renew_leaves kind count batch due.part r)
  follows ask due s = (ask_gives due.held s, ask_leaves due.held s)
  follows again due s = (
    of_out due.state (λ run. (answered.outcome ≡ node.done) × (given answered ≡ request_of run)) (s.outcome, s.gives),
    subst (Agrees h) (sym s.unchanged) a,
  )
  follows (answer res) due s = (
    of_out due.state _ (record { right = s.right; wrong = λ other. let w = s.wrong other in (w.0, w.2) }),
    leaves idle refl tt s.next,
  )
  follows (sync auts) due s = (of_out due.state.0 _ (s.outcome, s.gives), leaves resyncing refl tt s.next)
  follows reject due s = ((s.outcome, s.gives), leaves idle refl tt s.next)
  follows timeout due s = ((s.outcome, s.gives), leaves idle refl tt s.next)
  follows abandon due s = ((s.outcome, s.gives), leaves idle refl tt s.next)

-- ---- every call

module _ (h : History) (vlr : Vlr) (a : Agrees h vlr) (call : Call) where
  abbrev handled : Handled
  handled = record { call = call; answer = reply vlr call }

  abbrev law : VlrLaws vlr call (reply vlr call)
  law = laws vlr call

  -- which calls are taken, by the record and so by the history
  taken_if : (is_taken (reply vlr call) ≡ true)
      ↔ Due (terms_of (state_of h.phase) (length (unused h)) (kind_in (out_of h.stored h.phase)) call)
  taken_if = (
    λ t. due a.state (held_is h vlr a) a.out (law.not_refused.0 (eqb-true _ 0 t)).1,
    λ d. eq-eqb _ 0 (law.not_refused.1 (a.valid, due (sym a.state) (sym (held_is h vlr a)) (sym a.out) d)),
  )
    where
      due : {s s' : State} {n n' : ℕ} {o o' : Octets} → s ≡ s' → n ≡ n' → o ≡ o' → Due (terms_of s n (kind_in o) call)
          → Due (terms_of s' n' (kind_in o') call)
      due {s} {s'} {n} {n'} {o} {o'} e f g d =
          subst (λ (x : Octets). Due (terms_of s' n' (kind_in x) call)) g
          (subst₂ (λ (t : State) (m : ℕ). Due (terms_of t m (kind_in o) call)) e f d)

  meets : Agrees (after h handled) (reply vlr call).vlr → (is_taken (reply vlr call) ≡ true → Gives call h (reply vlr call))
      → (is_taken (reply vlr call) ≡ false → given (reply vlr call) ≡ nothing) → Meets h handled
  meets b gives refused = record {
    taken = taken_if;
    gives = gives;
    refused = refused;
    rising = b.cleared.rising;
    keeps = record_is (after h handled) (reply vlr call).vlr b;
    valid = b.valid;
  }

  -- each call leaves what agrees
  pub on : Meets h handled × Agrees (after h handled) (reply vlr call).vlr
  on = go (is_taken (reply vlr call)) refl
    where
      left : (b : Bool) → is_taken (reply vlr call) ≡ b → Agrees (cond b (adds h call) h) (reply vlr call).vlr
          → Agrees (after h handled) (reply vlr call).vlr
      left b e g = subst (λ (t : Bool). Agrees (cond t (adds h call) h) (reply vlr call).vlr) (sym e) g

      go : (b : Bool) → is_taken (reply vlr call) ≡ b → Meets h handled × Agrees (after h handled) (reply vlr call).vlr
      go true e =
          let none = eqb-true (refusal_of (reply vlr call).outcome) 0 e in
          let f = follows h vlr a (reply vlr call) (law.stays_valid a.shaped a.valid) (law.stays_shaped a.shaped) call
          (law.not_refused.0 none).1 (law.does a.shaped none) in
          let b = left true e f.1 in
          (meets b (λ t. f.0) (λ f. absurd (true≢false (sym e ∙ f))), b)
      go false e =
          let same = law.stays (eqb-false (refusal_of (reply vlr call).outcome) 0 e) in
          let b = left false e (subst (Agrees h) (sym (ap (λ (x : VlrAnswer). x.vlr) same)) a) in
          (meets b (λ t. absurd (true≢false (sym t ∙ e))) (λ f. ap given same), b)

-- from any record and history that agree
pub all_calls : (calls : List Call) (h : History) (vlr : Vlr) → Agrees h vlr → InOrder h (answers reply vlr calls)
unfolding InOrder answers
all_calls [] h vlr a = tt
all_calls (call ∷ rest) h vlr a =
    let here = on h vlr a call in
    (here.0, all_calls rest (after h (record { call = call; answer = reply vlr call })) (reply vlr call).vlr here.1)

pub order_of_use : OrderOfUse reply
order_of_use calls = all_calls calls nothing_yet new_vlr new_agrees
