-- The laws of the VLR's answers, proved: of each operation what its tests say and what its answer does. Assumes nothing.
use Prim.Native.Nat.{ℕ, ◌+◌, ◌*◌, ◌≤◌, ◌<◌}
use mathlib.Core.Bool.{Bool, true, false, ◌&&◌, not, cond, and-eq-true_iff, true≢false}
use mathlib.Core.Logic.{◌⊎◌, inl, inr, ◌↔◌, ⊎_elim}
use mathlib.Core.Path.{◌≡◌, refl, sym, ap, ◌∙◌}
use native.Mathlib.Omega.{arith}
use borrow.Author.Tests.{leb-true, le-leb, lt-leb, eqb-true, eqb-false, eq-eqb, ne_eqb}
use lib.Dec.{eqb, leb}
use lib.ListN.{length}
use Rattle.octets.specs.Octets.{Octets}
use Rattle.octets.proofs.Absurd.{zero_not_one}
use Rattle.octets.proofs.Parts.{false_unequal}
use Rattle.octets.proofs.Strings.{equal_true}
use Rattle.aka.specs.Layout.{Kind, vector, triplet, item_size, most_vectors}
use Rattle.aka.specs.Vlr.{Vlr, VlrAnswer, State, idle, asked, resyncing, is_asked, is_resyncing, most_held, place_at, places_of, kind_in}
use Rattle.aka.specs.Vlr.{is_vector, new_vlr, count_fits, batch_fits, refusal_or, unless_refused, queued, oldest_out, none_out, out_run}
use Rattle.aka.specs.Vlr.{request, res_right, pass_if, resync_request, store_refusal, ask_refusal, asked_refusal, sync_refusal}
use Rattle.aka.specs.Vlr.{renew_refusal, timeout_refusal}
use Rattle.aka.specs.Vlr as node
use Rattle.aka.specs.Calls.{Call, reply, store, renew, ask, again, answer, sync, reject, timeout, abandon}
use Rattle.aka.specs.VlrLaws.{VlrShaped, Any, Answers, VlrLaws, VlrPromise}
use Rattle.aka.proofs.VlrPlaces.{placed_kind, placed_run, response_size, length_places, place_of, place_good}
use Rattle.aka.proofs.VlrRecords.{Valid, true_valid, valid_iff, new_valid, new_shaped, Fits, queued_shaped, queued_valid}
use Rattle.aka.proofs.VlrRecords.{queued_before, queued_behind, oldest_shaped, oldest_first, oldest_rest, oldest_valid}
use Rattle.aka.proofs.VlrRecords.{none_shaped, none_valid, none_left}
use Rattle.aka.proofs.Replies as chain

-- ---- what the tests say

-- a statement of a test says the test
same : {P : Type 0} → P ↔ P
same = (λ p. p, λ p. p)

-- nothing is named: a test that always passes
any : {A : Type 0} {x : A} → (x ≡ x) ↔ Any
any = (λ e. tt, λ u. refl)

-- a test of the state, by the three states
by_state : (vlr : Vlr) {P : Type 0} → (vlr.state ≡ idle → P) → (vlr.state ≡ asked → P) → (vlr.state ≡ resyncing → P) → P
by_state vlr {P} i a r = go vlr.state refl
  where
    go : (s : State) → vlr.state ≡ s → P
    go idle e = i e
    go asked e = a e
    go resyncing e = r e

fails : {b : Bool} {P : Type 0} → b ≡ false → (P → ⊥) → (b ≡ true) ↔ P
fails f other = (λ t. absurd (true≢false (sym t ∙ f)), λ x. absurd (other x))

module _ (vlr : Vlr) {b : Bool} where
  in_idle : (vlr.state ≡ idle → b ≡ true) → (vlr.state ≡ asked → b ≡ false) → (vlr.state ≡ resyncing → b ≡ false)
      → (b ≡ true) ↔ (vlr.state ≡ idle)
  in_idle i a r =
      by_state vlr (λ e. (λ t. e, λ s. i e)) (λ e. fails (a e) (λ s. zero_not_one (cc))) (λ e. fails (r e) (λ s. zero_not_one (cc)))

  in_asked : (vlr.state ≡ idle → b ≡ false) → (vlr.state ≡ asked → b ≡ true) → (vlr.state ≡ resyncing → b ≡ false)
      → (b ≡ true) ↔ (vlr.state ≡ asked)
  in_asked i a r =
      by_state vlr (λ e. fails (i e) (λ s. zero_not_one (cc))) (λ e. (λ t. e, λ s. a e)) (λ e. fails (r e) (λ s. zero_not_one (cc)))

  in_resyncing : (vlr.state ≡ idle → b ≡ false) → (vlr.state ≡ asked → b ≡ false) → (vlr.state ≡ resyncing → b ≡ true)
      → (b ≡ true) ↔ (vlr.state ≡ resyncing)
  in_resyncing i a r =
      by_state vlr (λ e. fails (i e) (λ s. zero_not_one (cc))) (λ e. fails (a e) (λ s. zero_not_one (cc))) (λ e. (λ t. e, λ s. r e))

  not_resyncing : (vlr.state ≡ idle → b ≡ true) → (vlr.state ≡ asked → b ≡ true) → (vlr.state ≡ resyncing → b ≡ false)
      → (b ≡ true) ↔ ((vlr.state ≡ idle) ⊎ (vlr.state ≡ asked))
  not_resyncing i a r = by_state vlr (λ e. (λ t. inl e, λ s. i e)) (λ e. (λ t. inr e, λ s. a e))
      (λ e. fails (r e) (λ s. ⊎_elim (λ f. zero_not_one (cc)) (λ f. zero_not_one (cc)) s))

-- a vector is out
is_vector_lem : (kind : Kind) → (is_vector kind ≡ true) ↔ (kind ≡ vector)
is_vector_lem vector = (λ t. refl, λ e. refl)
is_vector_lem triplet = (λ t. absurd (true≢false (sym t)), λ e. zero_not_one (cc))

asked_with_vector : (vlr : Vlr)
    → ((is_asked vlr.state && is_vector (kind_in vlr.out)) ≡ true) ↔ ((vlr.state ≡ asked) × (kind_in vlr.out ≡ vector))
asked_with_vector vlr =
    let is_asked_lem = in_asked vlr {b = is_asked vlr.state} (λ e. cc) (λ e. cc) (λ e. cc) in
    let is_out = is_vector_lem (kind_in vlr.out) in (
      λ t.
          let both = (and-eq-true_iff (is_asked vlr.state) (is_vector (kind_in vlr.out))).0 t in
          (is_asked_lem.0 both.0, is_out.0 both.1),
      λ h. rw (is_asked_lem.1 h.0) (is_out.1 h.1),
    )

-- two numbers are equal
pub equals : {m n : ℕ} → (eqb m n ≡ true) ↔ (m ≡ n)
equals {m} {n} = (eqb-true m n, eq-eqb m n)

pub counts : (count : ℕ) → (count_fits count ≡ true) ↔ ((1 ≤ count) × (count ≤ most_vectors))
unfolding count_fits
counts count = (
  λ e.
      let both = (and-eq-true_iff (leb 1 count) (leb count most_vectors)).0 e in
      (leb-true 1 count both.0, leb-true count most_vectors both.1),
  λ h. rw (le-leb 1 count h.0, le-leb count most_vectors h.1),
)

pub fits : (kind : Kind) (count : ℕ) (batch : Octets) → (batch_fits kind count batch ≡ true) ↔ (length batch ≡ item_size kind * count)
unfolding batch_fits
fits kind count batch = equals

-- refusal 9 unless there is room, refusal 8 unless one is held
pub room : (n : ℕ) → (◌≡◌ {A = ℕ} (cond (leb n most_held) 0 9) 0) ↔ (n ≤ most_held)
room n = (go (leb n most_held) refl, λ h. rw (le-leb n most_held h))
  where
    go : (b : Bool) → leb n most_held ≡ b → ◌≡◌ {A = ℕ} (cond b 0 9) 0 → n ≤ most_held
    go true t q = leb-true _ _ t
    go false t q = absurd (omega arith)

pub some_held : (n : ℕ) → (◌≡◌ {A = ℕ} (cond (eqb n 0) 8 0) 0) ↔ (0 < n)
some_held n = (go (eqb n 0) refl, λ h. rw (ne_eqb n 0 (λ e. omega arith)))
  where
    go : (b : Bool) → eqb n 0 ≡ b → ◌≡◌ {A = ℕ} (cond b 8 0) 0 → 0 < n
    go true t q = absurd (omega arith)
    go false t q = let other : (n ≡ 0 → ⊥) = eqb-false n 0 t in omega arith

-- ---- what the answers do

answers : (vlr : Vlr) (res : Octets) (b : Bool) → res_right vlr res ≡ b → Answers vlr (pass_if vlr b) res
unfolding pass_if res_right
answers vlr res true e = record {
  right = λ same. (refl, refl);
  wrong = λ other. absurd (other (equal_true res (out_run vlr).response e));
  next = none_left idle vlr;
}
answers vlr res false e = record {
  right = λ same. absurd (false_unequal res (out_run vlr).response e same);
  wrong = λ other. (refl, refl, refl);
  next = none_left idle vlr;
}

-- Idle, with nothing out
idle_valid : (vlr : Vlr) → Valid vlr → Valid (none_out idle vlr)
idle_valid vlr v = none_valid idle vlr (λ e. zero_not_one (cc)) v

-- whether RES is right or not, the record is the same, and there is no refusal
either_way : (P : VlrAnswer → Type 0) (vlr : Vlr) → P (pass_if vlr true) → P (pass_if vlr false) → (b : Bool) → P (pass_if vlr b)
either_way P vlr right wrong true = right
either_way P vlr right wrong false = wrong

-- the places of a batch fit a record with room for them
batch_fits_lem : (vlr : Vlr) (kind : Kind) (count : ℕ) (batch : Octets) → VlrShaped vlr → length batch ≡ item_size kind * count
    → vlr.held + count ≤ most_held → Fits vlr count (places_of kind batch count)
batch_fits_lem vlr kind count batch s size room = record {
  shaped = s;
  size = length_places kind batch count size;
  good = place_good kind batch count size;
  room = room;
}

renew_fits : (kind : Kind) (count : ℕ) (batch : Octets) → length batch ≡ item_size kind * count → count ≤ most_vectors
    → Fits new_vlr count (places_of kind batch count)
renew_fits kind count batch size most = batch_fits_lem new_vlr kind count batch new_shaped size (omega arith)

-- ---- the laws

store_laws : (vlr : Vlr) (kind : Kind) (count : ℕ) (batch : Octets)
    → VlrLaws vlr (store kind count batch) (node.store vlr kind count batch)
unfolding node.store store_refusal queued
store_laws vlr kind count batch = chain.laws vlr (store kind count batch)
    (record {
      count = counts count;
      part = fits kind count batch;
      contents = same;
      state = not_resyncing vlr (λ e. cc) (λ e. cc) (λ e. cc);
      held = room (vlr.held + count);
    })
    (record {
      number = refl;
      does = λ s v d.
          let f = batch_fits_lem vlr kind count batch s d.part d.held in
          record {
            outcome = refl;
            gives = refl;
            state = refl;
            out = refl;
            held = refl;
            before = queued_before vlr count places f;
            behind = λ k lt. queued_behind vlr count places f k lt ∙ place_of kind batch count d.part k lt;
          };
      valid = λ s v d. queued_valid vlr count places (batch_fits_lem vlr kind count batch s d.part d.held) v;
      shaped = λ s v d. queued_shaped vlr count places (batch_fits_lem vlr kind count batch s d.part d.held);
    })
  where
    places : Octets
    places = places_of kind batch count

renew_laws : (vlr : Vlr) (kind : Kind) (count : ℕ) (batch : Octets)
    → VlrLaws vlr (renew kind count batch) (node.renew vlr kind count batch)
unfolding node.renew renew_refusal queued
renew_laws vlr kind count batch = chain.laws vlr (renew kind count batch)
    (record {
      count = counts count;
      part = fits kind count batch;
      contents = same;
      state = in_resyncing vlr (λ e. cc) (λ e. cc) (λ e. cc);
      held = any;
    })
    (record {
      number = refl;
      does = λ s v d. record {
        outcome = refl;
        gives = refl;
        state = refl;
        out = refl;
        held = omega arith;
        batch_held = λ k lt.
            let at : k ≡ 0 + k = omega arith in
            ap (place_at (queued new_vlr count places).queue) at
            ∙ queued_behind new_vlr count places (renew_fits kind count batch d.part d.count.1) k lt
            ∙ place_of kind batch count d.part k lt;
      };
      valid = λ s v d. queued_valid new_vlr count places (renew_fits kind count batch d.part d.count.1) new_valid;
      shaped = λ s v d. queued_shaped new_vlr count places (renew_fits kind count batch d.part d.count.1);
    })
  where
    places : Octets
    places = places_of kind batch count

ask_laws : (vlr : Vlr) → VlrLaws vlr ask (node.ask vlr)
unfolding node.ask ask_refusal oldest_out request
ask_laws vlr = chain.laws vlr ask
    (record { count = any; part = any; contents = any; state = in_idle vlr (λ e. cc) (λ e. cc) (λ e. cc); held = some_held vlr.held })
    (record {
      number = refl;
      does = λ s v d. record {
        outcome = refl;
        gives = refl;
        state = refl;
        out = oldest_first vlr s;
        held = let h = d.held in omega arith;
        rest = oldest_rest vlr s;
      };
      valid = λ s v d. oldest_valid vlr s d.held v;
      shaped = λ s v d. oldest_shaped vlr s;
    })

again_laws : (vlr : Vlr) → VlrLaws vlr again (node.again vlr)
unfolding node.again asked_refusal request
again_laws vlr = chain.laws vlr again
    (record { count = any; part = any; contents = any; state = in_asked vlr (λ e. cc) (λ e. cc) (λ e. cc); held = any })
    (record {
      number = refl;
      does = λ s v d. record { outcome = refl; gives = refl; unchanged = refl };
      valid = λ s v d. v;
      shaped = λ s v d. s;
    })

answer_laws : (vlr : Vlr) (res : Octets) → VlrLaws vlr (answer res) (node.answer vlr res)
unfolding node.answer asked_refusal pass_if
answer_laws vlr res = chain.laws vlr (answer res)
    (record { count = any; part = equals; contents = any; state = in_asked vlr (λ e. cc) (λ e. cc) (λ e. cc); held = any })
    (record {
      number = either_way (λ a. node.refusal_of a.outcome ≡ 0) vlr refl refl (res_right vlr res);
      does = λ s v d. answers vlr res (res_right vlr res) refl;
      valid = λ s v d. either_way (λ a. Valid a.vlr) vlr (idle_valid vlr v) (idle_valid vlr v) (res_right vlr res);
      shaped = λ s v d. either_way (λ a. VlrShaped a.vlr) vlr (none_shaped idle vlr s) (none_shaped idle vlr s) (res_right vlr res);
    })

sync_laws : (vlr : Vlr) (auts : Octets) → VlrLaws vlr (sync auts) (node.sync vlr auts)
unfolding node.sync sync_refusal resync_request none_out
sync_laws vlr auts = chain.laws vlr (sync auts)
    (record { count = any; part = equals; contents = any; state = asked_with_vector vlr; held = any })
    (record {
      number = refl;
      does = λ s v d. record { outcome = refl; gives = refl; next = none_left resyncing vlr };
      valid = λ s v d. none_valid resyncing vlr (λ e. zero_not_one (cc)) v;
      shaped = λ s v d. none_shaped resyncing vlr s;
    })

reject_laws : (vlr : Vlr) → VlrLaws vlr reject (node.reject vlr)
unfolding node.reject asked_refusal none_out
reject_laws vlr = chain.laws vlr reject
    (record { count = any; part = any; contents = any; state = in_asked vlr (λ e. cc) (λ e. cc) (λ e. cc); held = any })
    (record {
      number = refl;
      does = λ s v d. record { outcome = refl; number = refl; gives = refl; next = none_left idle vlr };
      valid = λ s v d. idle_valid vlr v;
      shaped = λ s v d. none_shaped idle vlr s;
    })

timeout_laws : (vlr : Vlr) → VlrLaws vlr timeout (node.timeout vlr)
unfolding node.timeout timeout_refusal none_out
timeout_laws vlr = chain.laws vlr timeout
    (record { count = any; part = any; contents = any; state = in_resyncing vlr (λ e. cc) (λ e. cc) (λ e. cc); held = any })
    (record {
      number = refl;
      does = λ s v d. record { outcome = refl; gives = refl; next = none_left idle vlr };
      valid = λ s v d. idle_valid vlr v;
      shaped = λ s v d. none_shaped idle vlr s;
    })

abandon_laws : (vlr : Vlr) → VlrLaws vlr abandon (node.abandon vlr)
unfolding node.abandon asked_refusal none_out
abandon_laws vlr = chain.laws vlr abandon
    (record { count = any; part = any; contents = any; state = in_asked vlr (λ e. cc) (λ e. cc) (λ e. cc); held = any })
    (record {
      number = refl;
      does = λ s v d. record { outcome = refl; gives = refl; next = none_left idle vlr };
      valid = λ s v d. idle_valid vlr v;
      shaped = λ s v d. none_shaped idle vlr s;
    })

pub laws : (vlr : Vlr) (call : Call) → VlrLaws vlr call (reply vlr call)
laws vlr (store kind count batch) = store_laws vlr kind count batch
laws vlr (renew kind count batch) = renew_laws vlr kind count batch
laws vlr ask = ask_laws vlr
laws vlr again = again_laws vlr
laws vlr (answer res) = answer_laws vlr res
laws vlr (sync auts) = sync_laws vlr auts
laws vlr reject = reject_laws vlr
laws vlr timeout = timeout_laws vlr
laws vlr abandon = abandon_laws vlr

pub vlr_promise : VlrPromise
unfolding node.store node.ask store_refusal ask_refusal refusal_or unless_refused
vlr_promise = record {
  laws = laws;
  refusal8 = λ vlr valid state none. rw (valid, state, none);
  refusal9 = λ vlr kind count batch valid counted sized good state past.
      let named : not (is_resyncing vlr.state) ≡ true = ⊎_elim (λ e. rw e) (λ e. rw e) state in
      rw (valid, (counts count).1 counted, (fits kind count batch).1 sized, named, lt-leb (vlr.held + count) most_held past);
  valid = valid_iff;
  new_valid = true_valid new_vlr new_valid;
  new_shaped = new_shaped;
  placed_kind = placed_kind;
  placed_run = placed_run;
  response_size = response_size;
}
