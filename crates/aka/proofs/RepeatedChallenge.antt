-- A repeated challenge at a phone: the proof. What is kept is what the store holds; and each store sees its own calls alone. Assumes
-- nothing.
use Prim.Native.Nat.{ℕ}
use mathlib.Core.Bool.{Bool, true, false, ◌&&◌, cond, true≢false}
use mathlib.Core.List.{List, [], ◌∷◌, ◌++◌}
use mathlib.Core.Option.{Option, none, some, some-injective}
use mathlib.Core.Path.{◌≡◌, refl, sym, ap, ◌∙◌, subst}
use borrow.Author.Tests.{ne_eqb}
use lib.Dec.{eqb}
use lib.ListN.{length}
use Rattle.octets.specs.Octets.{Octets, part, equal}
use Rattle.octets.proofs.Absurd.{zero_not_one}
use Rattle.octets.proofs.Strings.{equal_true, equal_self}
use Rattle.aka.specs.Layout.{rand_size, autn_size, store_size}
use Rattle.aka.specs.Functions.{Family, Lawful, Shaped}
use Rattle.aka.specs.Sequence.{Scheme}
use Rattle.aka.specs.Usim.{challenge}
use Rattle.aka.specs.Handset.{Store, repeats, answer_in, Outcome, HandsetAnswer, parts_right, challenged, outcome_on, answer_with}
use Rattle.aka.specs.Handset.{Written, clear, repeated, accepted, mac_failure, sync_failure, refused}
use Rattle.aka.specs.Demand3.{Each}
use Rattle.aka.specs.RepeatedChallenge.{Challenge, Call, challenging, clearing, CardShaped, Handled, answered, cleared, store_after}
use Rattle.aka.specs.RepeatedChallenge.{Kept, held_in, kept_with, kept_after, Named, Again, repetition, Meets, MeetsIn, Repeats}
use Rattle.aka.specs.RepeatedChallenge.{handle, alone, Domain, cs, ps, Phone, store_in, with_store, On, is_same, only, together}
use Rattle.aka.specs.RepeatedChallenge.{NotAccepted, NotCleared, InWords, RepeatedChallenge}
use Rattle.aka.proofs.Handset as known
use Rattle.aka.proofs.HandsetLaws.{fits, named, handset_promise}

-- ---- one challenge, where what is kept is what the store holds

module _ (scheme : Scheme) (family : Family) (c : Challenge) (store : Store) where
  abbrev answer : HandsetAnswer
  answer = challenged scheme family c.usim store c.rand c.autn c.fresh

  abbrev in_store : Kept
  in_store = record { rand = part 0 rand_size store.octets; answer = answer_in store }

  -- the RAND of a held store
  kept_repeats : (kept : Octets) → Again (held_in store) c kept → (repeats store c.rand ≡ true) × (answer_in store ≡ kept)
  unfolding repeats
  kept_repeats kept e = go store.held refl e
    where
      go : (b : Bool) → store.held ≡ b → cond b (some in_store) none ≡ some (record { rand = c.rand; answer = kept })
          → (repeats store c.rand ≡ true) × (answer_in store ≡ kept)
      go true h q =
          let same = some-injective _ _ q in
          (rw (h, ap (λ (k : Kept). k.rand) same) (equal_self c.rand), ap (λ (k : Kept). k.answer) same)
      go false h q = zero_not_one (cc)

  -- no store with this RAND is held
  not_kept : ((answer : Octets) → Again (held_in store) c answer → ⊥) → repeats store c.rand ≡ false
  unfolding repeats
  not_kept no_answer = go store.held refl (equal (part 0 rand_size store.octets) c.rand) refl
    where
      go : (b : Bool) → store.held ≡ b → (s : Bool) → equal (part 0 rand_size store.octets) c.rand ≡ s → (b && s) ≡ false
      go true h true e =
          absurd (no_answer (answer_in store) (rw (h, equal_true _ _ e) refl))
      go true h false e = refl
      go false h s e = refl

  meets : Meets scheme family (held_in store) c store answer
  unfolding answer_with
  meets =
      let laws = (handset_promise scheme family).laws c.usim store c.rand c.autn c.fresh in
      record {
        again = λ n shown e.
            let kept = kept_repeats shown e in
            known.repeats_it scheme family c.usim store c.rand c.autn c.fresh (fits store c.rand c.autn c.fresh n)
            kept.0
            ∙ ap (λ (s : Octets). repetition s c store) kept.1;
        other = λ n h. laws.other n (not_kept h);
        wrong = laws.refusal3;
      }

  -- what is kept after it is what the store then holds
  module _ (lawful : Lawful family) (shaped : Shaped c.usim.keys) where
    -- said of an answer
    abbrev KeptIn : HandsetAnswer → Type 0
    KeptIn a = kept_after (answered c store a) (held_in store) ≡ held_in a.store

    kept_with_lem : (o : Outcome) → outcome_on scheme family c.usim store c.rand c.autn c.fresh ≡ o
        → KeptIn (answer_with scheme family c.usim store c.rand c.autn c.fresh o)
    unfolding answer_with
    kept_with_lem repeated e = refl
    kept_with_lem accepted e =
        let tests = known.accepted_tests scheme family c.usim store c.rand c.autn c.fresh e in
        let size = known.length_given scheme family c.usim store c.rand c.autn c.fresh lawful shaped tests.2 in
        let rand_size_lem = (named store c.rand c.autn c.fresh tests.0).rand_size_lem in
        rw (known.held_rand c.rand _ rand_size_lem, known.held_answer c.rand _ rand_size_lem size) refl
    kept_with_lem mac_failure e = refl
    kept_with_lem sync_failure e = refl
    kept_with_lem (refused number) e = refl

    kept_after_lem : KeptIn answer
    unfolding challenged
    kept_after_lem = kept_with_lem (outcome_on scheme family c.usim store c.rand c.autn c.fresh) refl

-- ---- a clearing

cleared_kept : (store : Store) → kept_after (cleared store (clear store)) (held_in store) ≡ held_in (clear store).store
unfolding clear
cleared_kept store = go (eqb (length store.octets) store_size) refl
  where
    go : (b : Bool) → eqb (length store.octets) store_size ≡ b
        → kept_after (cleared store (clear store)) (held_in store) ≡ held_in (clear store).store
    go true e = rw e refl
    go false e = rw e refl

-- ---- a list of calls on one store

module _ (scheme : Scheme) (family : Family) (lawful : Lawful family) where
  step_meets : (store : Store) (call : Call) → MeetsIn scheme family (held_in store) (handle scheme family store call)
  step_meets store (challenging c) = meets scheme family c store
  step_meets store clearing = record {
    done = (handset_promise scheme family).clears store;
    wrong = (handset_promise scheme family).clear_refusal3 store;
  }

  step_kept : (store : Store) (call : Call) → CardShaped call
      → kept_after (handle scheme family store call) (held_in store) ≡ held_in (store_after (handle scheme family store call))
  step_kept store (challenging c) shaped = kept_after_lem scheme family c store lawful shaped
  step_kept store clearing shaped = cleared_kept store

  alone_repeats : (store : Store) (calls : List Call) → Each CardShaped calls
      → Repeats scheme family (held_in store) (alone scheme family store calls)
  unfolding alone Repeats
  alone_repeats store [] shaped = tt
  alone_repeats store (call ∷ rest) shaped =
      let next = store_after (handle scheme family store call) in (
        step_meets store call,
        subst (λ (k : Option Kept). Repeats scheme family k (alone scheme family next rest)) (sym (step_kept store call shaped.0))
            (alone_repeats next rest shaped.1),
      )

  -- ---- the two stores of a phone

  only_shaped : (d : Domain) (calls : List (On Call)) → Each (λ x. CardShaped x.what) calls → Each CardShaped (only d calls)
  unfolding only
  only_shaped d [] shaped = tt
  only_shaped d (x ∷ rest) shaped = go (is_same d x.domain) (only_shaped d rest shaped.1)
    where
      go : (b : Bool) → Each CardShaped (only d rest) → Each CardShaped (cond b (x.what ∷ only d rest) (only d rest))
      go true later = (shaped.0, later)
      go false later = later

  -- a call on a domain, and the calls behind it
  module _ (phone : Phone) (call : Call) (rest : List (On Call)) where
    abbrev here : Domain → Handled
    here e = handle scheme family (store_in e phone) call

    abbrev left : Domain → Phone
    left e = with_store e (store_after (here e)) phone

    one_apart : (d e : Domain) → only d (together scheme family (left e) rest) ≡ alone scheme family (store_in d (left e)) (only d rest)
        → only d (together scheme family phone (record { domain = e; what = call } ∷ rest))
        ≡ alone scheme family (store_in d phone) (only d (record { domain = e; what = call } ∷ rest))
    unfolding only together alone
    one_apart cs cs later = ap (λ (l : List Handled). here cs ∷ l) later
    one_apart cs ps later = later
    one_apart ps cs later = later
    one_apart ps ps later = ap (λ (l : List Handled). here ps ∷ l) later

  apart : (d : Domain) (phone : Phone) (calls : List (On Call))
      → only d (together scheme family phone calls) ≡ alone scheme family (store_in d phone) (only d calls)
  unfolding only together alone
  apart d phone [] = refl
  apart d phone (x ∷ rest) =
      one_apart phone x.what rest d x.domain (apart d (left phone x.what rest x.domain) rest)

pub repeated_challenge : (scheme : Scheme) (family : Family) → RepeatedChallenge scheme family
repeated_challenge scheme family lawful phone calls shaped = record {
  each = λ d. subst (λ (l : List Handled). Repeats scheme family (held_in (store_in d phone)) l)
      (sym (apart scheme family lawful d phone calls))
      (alone_repeats scheme family lawful (store_in d phone) (only d calls) (only_shaped scheme family lawful d calls shaped));
  apart = λ d. apart scheme family lawful d phone calls;
}

-- ---- in words

module _ (scheme : Scheme) (family : Family) where
  -- what follows is as it would be behind the calls between
  kept_past : (kept : Option Kept) (h : Handled) (rest : List Handled) → kept_after h kept ≡ kept → Repeats scheme family kept (h ∷ rest)
      → Repeats scheme family kept rest
  unfolding Repeats
  kept_past kept h rest e r = subst (λ (k : Option Kept). Repeats scheme family k rest) e r.1

  not_new : (o : Outcome) → (o ≡ accepted → ⊥) → (latest : Kept) (kept : Option Kept) → kept_with o latest kept ≡ kept
  not_new repeated h latest kept = refl
  not_new accepted h latest kept = absurd (h refl)
  not_new mac_failure h latest kept = refl
  not_new sync_failure h latest kept = refl
  not_new (refused number) h latest kept = refl

  same_kept : (h : Handled) → NotAccepted h → NotCleared h → (kept : Option Kept) → kept_after h kept ≡ kept
  same_kept (answered c store a) new clear kept = not_new a.outcome new _ kept
  same_kept (cleared store a) new clear kept = rw (ne_eqb a.refusal 0 clear)

  none_kept : (h : Handled) → NotAccepted h → kept_after h none ≡ none
  none_kept (answered c store a) new = not_new a.outcome new _ none
  none_kept (cleared store a) new = go (eqb a.refusal 0)
    where
      go : (b : Bool) → cond {A = Option Kept} b none none ≡ none
      go true = refl
      go false = refl

  past_all : (kept : Option Kept) (between rest : List Handled) → Each (λ h. kept_after h kept ≡ kept) between
      → Repeats scheme family kept (between ++ rest) → Repeats scheme family kept rest
  past_all kept [] rest same r = r
  past_all kept (h ∷ between) rest same r = past_all kept between rest same.1 (kept_past kept h (between ++ rest) same.0 r)

  each_same : (between : List Handled) → Each NotAccepted between → Each NotCleared between → (kept : Option Kept)
      → Each (λ h. kept_after h kept ≡ kept) between
  each_same [] new clear kept = tt
  each_same (h ∷ between) new clear kept = (same_kept h new.0 clear.0 kept, each_same between new.1 clear.1 kept)

  each_none : (between : List Handled) → Each NotAccepted between → Each (λ h. kept_after h none ≡ none) between
  each_none [] new = tt
  each_none (h ∷ between) new = (none_kept h new.0, each_none between new.1)

  -- a call on a store on which nothing is kept does not repeat
  unrepeated : (d : Challenge) (store : Store) (b : HandsetAnswer) → Meets scheme family none d store b → b.outcome ≡ repeated → ⊥
  unrepeated d store b m e = go (parts_right store d.rand d.fresh && eqb (length d.autn) autn_size) refl
    where
      go : (f : Bool) → (parts_right store d.rand d.fresh && eqb (length d.autn) autn_size) ≡ f → ⊥
      go true f =
          known.no_repeat (challenge scheme family d.usim d.rand d.autn).verdict
          (sym (m.other (named store d.rand d.autn d.fresh f) (λ shown q. zero_not_one (cc))) ∙ e)
      go false f =
          let refusal = m.wrong (λ n. true≢false (sym (fits store d.rand d.autn d.fresh n) ∙ f)) in
          zero_not_one (cc)

  again : (kept : Option Kept) (c d : Challenge) (store later : Store) (a b : HandsetAnswer) (between rest : List Handled)
      → Repeats scheme family kept (answered c store a ∷ (between ++ (answered d later b ∷ rest)))
      → a.outcome ≡ accepted → Each NotAccepted between → Each NotCleared between → d.rand ≡ c.rand → Named d later
      → b ≡ repetition a.shown d later
  unfolding Repeats
  again kept c d store later a b between rest r acc new clear same n =
      let latest : Kept = record { rand = c.rand; answer = a.shown } in
      let behind = subst (λ (k : Option Kept). Repeats scheme family k (between ++ (answered d later b ∷ rest)))
      (ap (λ (o : Outcome). kept_with o latest kept) acc) r.1 in
      let here = past_all (some latest) between (answered d later b ∷ rest) (each_same between new clear (some latest)) behind in
      here.0.again n a.shown (ap (λ (x : Octets). some (record { rand = x; answer = a.shown })) (sym same))

  nothing : (kept : Option Kept) (d : Challenge) (store later : Store) (a : Written) (b : HandsetAnswer) (between rest : List Handled)
      → Repeats scheme family kept (cleared store a ∷ (between ++ (answered d later b ∷ rest)))
      → a.refusal ≡ 0 → Each NotAccepted between → b.outcome ≡ repeated → ⊥
  unfolding Repeats
  nothing kept d store later a b between rest r done new e =
      let behind = subst (λ (n : ℕ). Repeats scheme family (cond (eqb n 0) none kept) (between ++ (answered d later b ∷ rest))) done
      r.1 in
      let here = past_all none between (answered d later b ∷ rest) (each_none between new) behind in
      unrepeated d later b here.0 e

  pub in_words : InWords scheme family
  in_words = record { shown_again = again; nothing_shown_lem = nothing }
