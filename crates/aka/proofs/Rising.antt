-- The core of demand 3, over a whole list of calls: a USIM takes any batch whose numbers rise, from above SEQ_MS, within D and the limit,
-- whatever its indices and its RANDs and however it came about. Assumes nothing.
use Prim.Native.Nat.{ℕ, zero, suc, ◌+◌, ◌-◌, ◌≤◌, ◌<◌}
use mathlib.Core.Bool.{Bool, true, false, ◌&&◌, cond, and-eq-true_iff}
use mathlib.Core.List.{List, [], ◌∷◌}
use mathlib.Core.Option.{Option, none, some}
use mathlib.Core.Path.{◌≡◌, refl, sym, ap, ◌∙◌, subst, subst₂}
use native.Mathlib.Omega.{arith}
use lib.ListN.{length, set, length-set, drop}
use Rattle.octets.specs.Octets.{Octets, equal}
use Rattle.octets.proofs.Absurd.{zero_not_one}
use Rattle.octets.proofs.Strings.{equal_true}
use Rattle.aka.specs.Layout.{all_zero, Vector, amf_size, rand_size, vector_at}
use Rattle.aka.specs.Functions.{Functions, Family, Lengths}
use Rattle.aka.specs.Sequence.{D, Scheme, Fitting, width_of, indices, limit}
use Rattle.aka.specs.Usim.{Usim, UsimAnswer, challenge, fresh, lengths_right, valid_usim, all_within, highest, seq_ms}
use Rattle.aka.specs.Auc.{make_vector}
use Rattle.aka.specs.Demand3.{Call, AnsweredCall, Each, FromBatch, OtherNotAccepted, answer_to, answers_to}
use Rattle.aka.specs.Demand3.{carries, place_from, place_of, later, latest, vector_seq}
use Rattle.aka.proofs.Places.{place_le, highest_set, within_set, zeros_set}
use Rattle.aka.proofs.Tokens.{sqn_octets, autn_seq}
use Rattle.aka.proofs.Verdicts.{fresh_iff, accepted_answer, made_accepted, not_accepted_unchanged}

-- what is asked of a batch of n vectors
pub record Rising (scheme : Scheme) (family : Family) (usim : Usim) (batch : Octets) (n : ℕ)
    (amf : Octets) (seq ind : ℕ → ℕ) (rand : ℕ → Octets) : Type 0 where
  pub fits : Fitting scheme
  pub admitted : family.admits usim.edition usim.keys ≡ true
  pub amf_size_lem : length amf ≡ amf_size
  pub rand_size_lem : (k : ℕ) → k < n → length (rand k) ≡ rand_size
  pub index : (k : ℕ) → k < n → ind k < indices (width_of scheme usim.edition)
  pub above : (k : ℕ) → k < n → seq_ms usim < seq k
  pub rising : (j k : ℕ) → j < k → k < n → seq j < seq k
  pub near : (k : ℕ) → k < n → seq k ≤ seq_ms usim + D
  pub within : (k : ℕ) → k < n → seq k ≤ limit (width_of scheme usim.edition)
  pub vectors : (k : ℕ) → k < n
      → vector_at batch k ≡ make_vector (family.under usim.keys) (sqn_octets (width_of scheme usim.edition) (seq k) (ind k)) amf (rand k)

-- what holds of a call: if it is of the batch it is accepted, and SEQ_MS is the number of the last vector counted
pub record Counted (w : ℕ) (F : Functions) (batch : Octets) (n : ℕ) (seq : ℕ → ℕ) (c : AnsweredCall) : Type 0 where
  pub accepts : FromBatch w F batch c
  pub inside : (k : ℕ) → c.last ≡ some k → k < n
  pub number : (k : ℕ) → c.last ≡ some k → seq_ms c.answer.usim ≡ seq k

-- ---- which place a call is counted at

some_inj : {j k : ℕ} → some j ≡ some k → j ≡ k
some_inj e = cc

not_some : {k : ℕ} → none ≡ some k → ⊥
not_some e = zero_not_one (cc)

found : (batch : Octets) (call : Call) (k left j : ℕ) → place_from batch call k left ≡ some j
    → (k ≤ j) × (j < k + left) × (carries batch call j ≡ true)
unfolding place_from
found batch call k zero j e = absurd (not_some e)
found batch call k (suc left) j e = go (carries batch call k) refl e (found batch call (suc k) left j)
  where
    go : (t : Bool) → carries batch call k ≡ t → cond t (some k) (place_from batch call (suc k) left) ≡ some j
        → (place_from batch call (suc k) left ≡ some j → (suc k ≤ j) × (j < suc k + left) × (carries batch call j ≡ true))
        → (k ≤ j) × (j < k + suc left) × (carries batch call j ≡ true)
    go true h q ih = let here : k ≡ j = some_inj q in (omega arith, omega arith, ap (carries batch call) (sym here) ∙ h)
    go false h q ih = (omega (arith, ih q), omega (arith, ih q), (ih q).2)

carried : (batch : Octets) (call : Call) (k : ℕ) → carries batch call k ≡ true
    → (call.rand ≡ (vector_at batch k).rand) × (call.autn ≡ (vector_at batch k).autn)
unfolding carries
carried batch call k e =
    let is_sized = lengths_right call.rand call.autn in
    let same_rand = equal call.rand (vector_at batch k).rand in
    let same_autn = equal call.autn (vector_at batch k).autn in
    let outer = (and-eq-true_iff (is_sized && same_rand) same_autn).0 e in
    let inner = (and-eq-true_iff is_sized same_rand).0 outer.0 in
    (equal_true _ _ inner.1, equal_true _ _ outer.1)

-- ---- the walk

-- SEQ_MS after the last place counted
abbrev current : (ms : ℕ) (seq : ℕ → ℕ) (last : Option ℕ) → ℕ
current ms seq none = ms
current ms seq (some k) = seq k

abbrev with_places : Usim → List ℕ → Usim
with_places usim l = record { edition = usim.edition; keys = usim.keys; places = l }

module _ (scheme : Scheme) (family : Family) (usim : Usim) (L : Lengths (family.under usim.keys)) (batch : Octets) (n : ℕ)
    (amf : Octets) (seq ind : ℕ → ℕ) (rand : ℕ → Octets) (B : Rising scheme family usim batch n amf seq ind rand) where
  abbrev w : ℕ
  w = width_of scheme usim.edition

  width : w ≤ 48
  width = B.fits.width usim.edition

  abbrev F : Functions
  F = family.under usim.keys

  -- between two calls: the places, and the last place counted
  record Between (l : List ℕ) (last : Option ℕ) : Type 0 where
    pub size : length l ≡ scheme.places
    pub within : all_within (limit w) l ≡ true
    pub zeros : all_zero (drop (indices w) l) ≡ true
    pub number : highest l ≡ current (seq_ms usim) seq last
    pub low : later last ≤ n

  rises : (last : Option ℕ) (k : ℕ) → later last ≤ k → k < n → current (seq_ms usim) seq last < seq k
  rises none k h g = B.above k g
  rises (some j) k h g = B.rising j k h g

  -- it is never below where the batch began
  not_below : (last : Option ℕ) → later last ≤ n → seq_ms usim ≤ current (seq_ms usim) seq last
  not_below none h = omega arith
  not_below (some j) h = omega (arith, B.above j h)

  -- a call of the batch
  module _ (call : Call) (l : List ℕ) (last : Option ℕ) (at : Between l last) (k : ℕ) (e : place_of batch n last call ≡ some k) where
    place : (later last ≤ k) × (k < later last + (n - later last)) × (carries batch call k ≡ true)
    place = found batch call (later last) (n - later last) k e

    inside : k < n
    inside = omega (arith, place, at.low)

    higher : highest l < seq k
    higher = omega (arith, rises last k place.0 inside, at.number)

    is_fresh : fresh l (seq k) (ind k) ≡ true
    is_fresh = (fresh_iff l (seq k) (ind k)).1
        (omega (arith, place_le l (ind k), higher), omega (arith, B.near k inside, not_below last at.low, at.number))

    valid : valid_usim scheme family (with_places usim l) ≡ true
    unfolding valid_usim
    valid = rw (B.admitted, at.within, at.zeros)

    the_answer : challenge scheme family (with_places usim l) call.rand call.autn
        ≡ accepted_answer scheme B.fits family (with_places usim l) L valid (seq k) (ind k)
        (B.within k inside) (B.index k inside) amf (rand k) B.amf_size_lem (B.rand_size_lem k inside)
    unfolding make_vector
    the_answer =
        let c = carried batch call k place.2 in
        let v = B.vectors k inside in
        rw (c.0 ∙ ap (λ (x : Vector). x.rand) v, c.1 ∙ ap (λ (x : Vector). x.autn) v)
        (made_accepted scheme B.fits family (with_places usim l) L valid (seq k) (ind k)
        (B.within k inside) (B.index k inside) amf (rand k) B.amf_size_lem (B.rand_size_lem k inside) is_fresh)

    next : Between (set l (ind k) (seq k)) (some k)
    next =
        let bound : ind k < length l = omega (arith, at.size, B.index k inside, B.fits.places usim.edition) in
        record {
          size = length-set l (ind k) (seq k) ∙ at.size;
          within = within_set (limit w) l (ind k) (seq k) (B.within k inside) at.within;
          zeros = zeros_set (indices w) l (ind k) (seq k) (B.index k inside) at.zeros;
          number = highest_set l (ind k) (seq k) bound (omega (arith, higher));
          low = inside;
        }

  -- the number that the vector at k carries
  vector_number : (k : ℕ) → k < n → vector_seq w F (vector_at batch k) ≡ seq k
  unfolding make_vector
  vector_number k h =
      rw (B.vectors k h)
      (autn_seq w width F L (seq k) (ind k) (B.within k h) (B.index k h) amf (rand k) B.amf_size_lem (B.rand_size_lem k h))

  abbrev walk : Usim → Option ℕ → List Call → List AnsweredCall
  walk u last calls = answers_to scheme family batch n u last calls

  -- the record after a call
  abbrev then : List ℕ → Call → Usim
  then l call = (challenge scheme family (with_places usim l) call.rand call.autn).usim

  abbrev Goal : List Call → Usim → Option ℕ → Type 0
  Goal calls u last = Each OtherNotAccepted (walk u last calls) → Each (Counted w F batch n seq) (walk u last calls)

  here : (l : List ℕ) (last : Option ℕ) → Between l last → (k : ℕ) → last ≡ some k → (k < n) × (highest l ≡ seq k)
  here l last at k e = (subst (λ (o : Option ℕ). later o ≤ n) e at.low, at.number ∙ ap (current (seq_ms usim) seq) e)

  one : (call : Call) (rest : List Call) (l : List ℕ) (last : Option ℕ) → Between l last
      → (p : Option ℕ) → place_of batch n last call ≡ p
      → ((l' : List ℕ) (last' : Option ℕ) → Between l' last' → Goal rest (with_places usim l') last')
      → OtherNotAccepted (answer_to scheme family batch n (with_places usim l) last call)
      → Counted w F batch n seq (answer_to scheme family batch n (with_places usim l) last call)
      × Goal rest (then l call) (latest (place_of batch n last call) last)
  unfolding make_vector
  one call rest l last at none e ih other =
      let same : then l call ≡ with_places usim l =
      not_accepted_unchanged scheme family (with_places usim l) call.rand call.autn (other e) in
      let now : latest (place_of batch n last call) last ≡ last = ap (λ (o : Option ℕ). latest o last) e in
      let number : (k : ℕ) → latest (place_of batch n last call) last ≡ some k → (k < n) × (highest l ≡ seq k) =
      λ k q. here l last at k (sym now ∙ q) in (
        record {
          accepts = record {
            verdict = λ k q. absurd (not_some (sym e ∙ q));
            res = λ k q. absurd (not_some (sym e ∙ q));
            ck = λ k q. absurd (not_some (sym e ∙ q));
            ik = λ k q. absurd (not_some (sym e ∙ q));
            seq = λ k q. ap seq_ms same ∙ (number k q).1 ∙ sym (vector_number k (number k q).0);
          };
          inside = λ k q. (number k q).0;
          number = λ k q. ap seq_ms same ∙ (number k q).1;
        },
        subst₂ (Goal rest) (sym same) (sym now) (ih l last at),
      )
  one call rest l last at (some k) e ih other =
      let a = the_answer call l last at k e in
      let v = B.vectors k (inside call l last at k e) in
      let l' = set l (ind k) (seq k) in
      let same : then l call ≡ with_places usim l' = ap (λ (x : UsimAnswer). x.usim) a in
      let now : latest (place_of batch n last call) last ≡ some k = ap (λ (o : Option ℕ). latest o last) e in
      let number : (j : ℕ) → latest (place_of batch n last call) last ≡ some j → (j < n) × (highest l' ≡ seq j) =
      λ j q. here l' (some k) (next call l last at k e) j (sym now ∙ q) in
      -- the vector that was made is the vector at the place counted
      let made : (j : ℕ) → place_of batch n last call ≡ some j
      → make_vector F (sqn_octets w (seq k) (ind k)) amf (rand k) ≡ vector_at batch j =
      λ j q. sym v ∙ ap (vector_at batch) (some_inj (sym e ∙ q)) in (
        record {
          accepts = record {
            verdict = λ j q. ap (λ (x : UsimAnswer). x.verdict) a;
            res = λ j q. ap (λ (x : UsimAnswer). x.res) a ∙ ap (λ (x : Vector). x.xres) (made j q);
            ck = λ j q. ap (λ (x : UsimAnswer). x.ck) a ∙ ap (λ (x : Vector). x.ck) (made j q);
            ik = λ j q. ap (λ (x : UsimAnswer). x.ik) a ∙ ap (λ (x : Vector). x.ik) (made j q);
            seq = λ j q. ap seq_ms same ∙ (number j q).1 ∙ sym (vector_number j (number j q).0);
          };
          inside = λ j q. (number j q).0;
          number = λ j q. ap seq_ms same ∙ (number j q).1;
        },
        subst₂ (Goal rest) (sym same) (sym now) (ih l' (some k) (next call l last at k e)),
      )

  from : (calls : List Call) (l : List ℕ) (last : Option ℕ) → Between l last → Goal calls (with_places usim l) last
  unfolding answers_to
  from [] l last at others = tt
  from (call ∷ rest) l last at others =
      let both = one call rest l last at (place_of batch n last call) refl (λ l' last' at'. from rest l' last' at') others.0 in
      (both.0, both.1 others.1)

  -- from the USIM's record, for every list of calls
  pub all_calls : length usim.places ≡ scheme.places → all_within (limit w) usim.places ≡ true
      → all_zero (drop (indices w) usim.places) ≡ true → (calls : List Call) → Goal calls usim none
  all_calls size within zeros calls =
      from calls usim.places none (record { size = size; within = within; zeros = zeros; number = refl; low = omega arith })
