-- The VLR's refusals, once for all its operations: where the tests say what document 01 names and the answer does what it says, the laws
-- hold, whatever tests and answer the definition of an operation has. Assumes nothing.
use Prim.Native.Nat.{ℕ, zero, suc}
use mathlib.Core.Bool.{Bool, true, false}
use mathlib.Core.Logic.{◌↔◌}
use mathlib.Core.Path.{◌≡◌, refl, sym, ap, ◌∙◌, subst}
use native.Mathlib.Omega.{arith}
use Rattle.aka.specs.Vlr.{Vlr, VlrAnswer, Outcome, done, passed, cause, refused, refusal_of, cause_of, valid_vlr, refusal_or, no_octets}
use Rattle.aka.specs.Vlr.{unless_refused, kind_in}
use Rattle.aka.specs.Calls.{Call}
use Rattle.aka.specs.VlrLaws.{VlrShaped, Terms, terms_of, Due, Does, VlrLaws}
use Rattle.aka.proofs.VlrRecords.{Valid, valid_true, true_valid}

-- the tests of a refusal chain say what document 01 names
pub record Tests (t : Terms) (c p g s : Bool) (rest : ℕ) : Type 0 where
  pub count : (c ≡ true) ↔ t.count
  pub part : (p ≡ true) ↔ t.part
  pub contents : (g ≡ true) ↔ t.contents
  pub state : (s ≡ true) ↔ t.state
  pub held : (rest ≡ 0) ↔ t.held

-- an answer without refusal does what document 01 says of the call
pub record Taken (vlr : Vlr) (call : Call) (a : VlrAnswer) : Type 0 where
  pub number : refusal_of a.outcome ≡ 0
  pub does : VlrShaped vlr → Valid vlr → Due (terms_of vlr.state vlr.held (kind_in vlr.out) call) → Does vlr a call
  pub valid : VlrShaped vlr → Valid vlr → Due (terms_of vlr.state vlr.held (kind_in vlr.out) call) → Valid a.vlr
  pub shaped : VlrShaped vlr → Valid vlr → Due (terms_of vlr.state vlr.held (kind_in vlr.out) call) → VlrShaped a.vlr

-- a test that says P is false where P is
refute : (b : Bool) (P : Type 0) → (b ≡ true) ↔ P → (P → ⊥) → b ≡ false
refute true P says other = absurd (other (says.0 refl))
refute false P says other = refl

-- no refusal: every test passes
pub clear : (vlr : Vlr) (c p g s : Bool) (rest : ℕ) → refusal_or vlr c p g s rest ≡ 0
    → (valid_vlr vlr ≡ true) × (c ≡ true) × (p ≡ true) × (g ≡ true) × (s ≡ true) × (rest ≡ 0)
unfolding refusal_or
clear vlr c p g s rest e = go (valid_vlr vlr) refl c p g s e
  where
    go : (v : Bool) → valid_vlr vlr ≡ v → (c p g s : Bool) → refusal_or vlr c p g s rest ≡ 0
        → (valid_vlr vlr ≡ true) × (c ≡ true) × (p ≡ true) × (g ≡ true) × (s ≡ true) × (rest ≡ 0)
    go false v c p g s e = let z : ◌≡◌ {A = ℕ} 1 0 = rw v at e in absurd (omega arith)
    go true v false p g s e = let z : ◌≡◌ {A = ℕ} 2 0 = rw v at e in absurd (omega arith)
    go true v true false g s e = let z : ◌≡◌ {A = ℕ} 3 0 = rw v at e in absurd (omega arith)
    go true v true true false s e = let z : ◌≡◌ {A = ℕ} 1 0 = rw v at e in absurd (omega arith)
    go true v true true true false e = let z : ◌≡◌ {A = ℕ} 7 0 = rw v at e in absurd (omega arith)
    go true v true true true true e = (v, refl, refl, refl, refl, rw v at e)

-- an outcome that is no cause has the cause 0
no_cause : (o : Outcome) → ((n : ℕ) → o ≡ cause n → ⊥) → cause_of o ≡ 0
no_cause done h = refl
no_cause passed h = refl
no_cause (cause n) h = absurd (h n refl)
no_cause (refused n) h = refl

module _ (vlr : Vlr) (call : Call) {c p g s : Bool} {rest : ℕ} {a : VlrAnswer}
    (tests : Tests (terms_of vlr.state vlr.held (kind_in vlr.out) call) c p g s rest) (taken : Taken vlr call a) where
  abbrev refusal : ℕ
  refusal = refusal_or vlr c p g s rest

  abbrev answered : VlrAnswer
  answered = unless_refused vlr refusal a

  as_refused : (n : ℕ) → refusal ≡ suc n → answered ≡ no_octets (refused (suc n)) vlr
  unfolding unless_refused
  as_refused n e = ap (λ (r : ℕ). unless_refused vlr r a) e

  as_taken : refusal ≡ 0 → answered ≡ a
  unfolding unless_refused
  as_taken e = ap (λ (r : ℕ). unless_refused vlr r a) e

  is_refused : (n : ℕ) → refusal ≡ suc n → answered.outcome ≡ refused (suc n)
  is_refused n e = ap (λ (x : VlrAnswer). x.outcome) (as_refused n e)

  is_taken : refusal ≡ 0 → refusal_of answered.outcome ≡ 0
  is_taken e = ap (λ (x : VlrAnswer). refusal_of x.outcome) (as_taken e) ∙ taken.number

  not_taken : (n : ℕ) → refusal ≡ suc n → refusal_of answered.outcome ≡ 0 → ⊥
  not_taken n e none = let z : suc n ≡ 0 = sym (ap refusal_of (is_refused n e)) ∙ none in omega arith

  -- refused with some number, or not
  either : (P : Type 0) → (refusal ≡ 0 → P) → ((n : ℕ) → refusal ≡ suc n → P) → P
  either P none some = go refusal refl
    where
      go : (n : ℕ) → refusal ≡ n → P
      go zero e = none e
      go (suc n) e = some n e

  passing : refusal ≡ 0 → (valid_vlr vlr ≡ true) × Due (terms_of vlr.state vlr.held (kind_in vlr.out) call)
  passing e =
      let all = clear vlr c p g s rest e in (
        all.0,
        record {
          count = tests.count.0 all.1;
          part = tests.part.0 all.2;
          contents = tests.contents.0 all.3;
          state = tests.state.0 all.4;
          held = tests.held.0 all.5;
        },
      )

  -- a refused call leaves the record
  next : (P : Vlr → Type 0) → P vlr → (Valid vlr → Due (terms_of vlr.state vlr.held (kind_in vlr.out) call) → P a.vlr)
      → P answered.vlr
  next P here after = either (P answered.vlr)
      (λ e. subst P (sym (ap (λ (x : VlrAnswer). x.vlr) (as_taken e))) (after (valid_true vlr (passing e).0) (passing e).1))
      (λ n e. subst P (sym (ap (λ (x : VlrAnswer). x.vlr) (as_refused n e))) here)

  pub laws : VlrLaws vlr call answered
  unfolding refusal_or
  laws = record {
    refusal1 = λ bad. is_refused 0 (rw bad);
    refusal2 = λ v bad. is_refused 1 (rw (v, refute c _ tests.count bad));
    refusal3 = λ v n bad. is_refused 2 (rw (v, tests.count.1 n, refute p _ tests.part bad));
    contents1 = λ v n l bad. is_refused 0 (rw (v, tests.count.1 n, tests.part.1 l, refute g _ tests.contents bad));
    refusal7 = λ v n l h bad.
        is_refused 6 (rw (v, tests.count.1 n, tests.part.1 l, tests.contents.1 h, refute s _ tests.state bad));
    not_refused = (
      λ none. either _ passing (λ n e. absurd (not_taken n e none)),
      λ d.
          let due = d.1 in
          let count = tests.count.1 due.count in
          let part = tests.part.1 due.part in
          let contents = tests.contents.1 due.contents in
          is_taken (rw (d.0, count, part, contents, tests.state.1 due.state) (tests.held.1 due.held)),
    );
    number = λ n e. ap refusal_of e;
    stays = λ number. either _ (λ e. absurd (number (is_taken e)))
        (λ n e. as_refused n e ∙ ap (λ (o : Outcome). no_octets o vlr) (sym (is_refused n e)));
    cause0 = no_cause answered.outcome;
    does = λ shaped none. either _
        (λ e. subst (λ (x : VlrAnswer). Does vlr x call) (sym (as_taken e))
        (taken.does shaped (valid_true vlr (passing e).0) (passing e).1))
        (λ n e. absurd (not_taken n e none));
    stays_valid = λ shaped v. next (λ x. valid_vlr x ≡ true) v (λ valid due. true_valid a.vlr (taken.valid shaped valid due));
    stays_shaped = λ shaped. next VlrShaped shaped (taken.shaped shaped);
  }
