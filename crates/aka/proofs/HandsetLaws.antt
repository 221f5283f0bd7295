-- The promises of the handset's answer. Assumes nothing.
use Prim.Native.Nat.{ℕ}
use mathlib.Core.Bool.{Bool, true, false, ◌&&◌, and-eq-true_iff}
use mathlib.Core.List.{[]}
use mathlib.Core.Logic.{◌↔◌}
use mathlib.Core.Path.{◌≡◌, refl, ap, ◌∙◌}
use borrow.Author.Tests.{eqb-true, ne_eqb}
use lib.Dec.{eqb}
use lib.ListN.{length}
use Rattle.octets.specs.Octets.{Octets, zeros, part}
use Rattle.octets.proofs.Strings.{equal_true, equal_self}
use Rattle.aka.specs.Layout.{autn_size, auts_size, write_answer}
use Rattle.aka.specs.Functions.{Family}
use Rattle.aka.specs.Sequence.{Scheme}
use Rattle.aka.specs.Usim.{Usim, challenge}
use Rattle.aka.specs.Usim as card
use Rattle.aka.specs.Handset.{Store, repeats, Outcome, refusal_of, handed_on, HandsetAnswer, parts_right, nothing_shown}
use Rattle.aka.specs.Handset.{challenged, answer_with, clear}
use Rattle.aka.specs.Handset.{repeated, accepted, mac_failure, sync_failure, refused}
use Rattle.aka.specs.HandsetLaws.{LengthsNamed, Unchanged, Taken, HandsetLaws, HandsetPromise}
use Rattle.aka.proofs.Handset as known

-- ---- the lengths named

module _ (store : Store) (rand autn fresh : Octets) where
  abbrev fit : Bool
  fit = parts_right store rand fresh && eqb (length autn) autn_size

  pub fits : LengthsNamed store rand autn fresh → fit ≡ true
  fits n = rw (known.parts_right_lem store rand fresh n.stored_size n.rand_size_lem n.fresh_size, n.autn_size_lem)

  pub named : fit ≡ true → LengthsNamed store rand autn fresh
  named e =
      let both = (and-eq-true_iff (parts_right store rand fresh) (eqb (length autn) autn_size)).0 e in
      let sizes = known.parts_known store rand fresh both.0 in
      record { rand_size_lem = sizes.1; autn_size_lem = eqb-true _ _ both.1; stored_size = sizes.0; fresh_size = sizes.2 }

  not_fit : (LengthsNamed store rand autn fresh → ⊥) → fit ≡ false
  not_fit h = go fit refl
    where
      go : (b : Bool) → fit ≡ b → b ≡ false
      go true e = absurd (h (named e))
      go false e = refl

-- ---- one challenge

module _ (scheme : Scheme) (family : Family) (usim : Usim) (store : Store) (rand autn fresh : Octets) where
  abbrev answer : HandsetAnswer
  answer = challenged scheme family usim store rand autn fresh

  abbrev with : Outcome → HandsetAnswer
  with o = answer_with scheme family usim store rand autn fresh o

  is : (o : Outcome) → answer.outcome ≡ o → answer ≡ with o
  is = known.answer_of_lem scheme family usim store rand autn fresh

  taken : answer.outcome ≡ accepted → Taken scheme family usim store rand autn fresh
  unfolding answer_with write_answer
  taken e =
      let a = is accepted e in
      record {
        card = ap (λ (x : HandsetAnswer). x.usim) a;
        stored = ap (λ (x : HandsetAnswer). x.store) a;
        fresh_is = ap (λ (x : HandsetAnswer). x.fresh) a;
        shown_is = ap (λ (x : HandsetAnswer). x.shown) a;
      }

  -- what is so with every outcome but some is so of the answer
  empty : (o : Outcome) → answer.outcome ≡ o → (o ≡ repeated → ⊥) → (o ≡ accepted → ⊥) → answer.shown ≡ []
  unfolding answer_with
  empty repeated e h g = absurd (h refl)
  empty accepted e h g = absurd (g refl)
  empty mac_failure e h g = ap (λ (x : HandsetAnswer). x.shown) (is mac_failure e)
  empty sync_failure e h g = ap (λ (x : HandsetAnswer). x.shown) (is sync_failure e)
  empty (refused number) e h g = ap (λ (x : HandsetAnswer). x.shown) (is (refused number) e)

  no_auts : (o : Outcome) → answer.outcome ≡ o → (o ≡ sync_failure → ⊥) → answer.auts ≡ zeros auts_size
  unfolding answer_with
  no_auts repeated e h = ap (λ (x : HandsetAnswer). x.auts) (is repeated e)
  no_auts accepted e h = ap (λ (x : HandsetAnswer). x.auts) (is accepted e)
  no_auts mac_failure e h = ap (λ (x : HandsetAnswer). x.auts) (is mac_failure e)
  no_auts sync_failure e h = absurd (h refl)
  no_auts (refused number) e h = ap (λ (x : HandsetAnswer). x.auts) (is (refused number) e)

  stays : (a : HandsetAnswer) → answer ≡ a → (a.usim ≡ usim) × (a.store ≡ store) × (a.fresh ≡ fresh)
      → Unchanged scheme family usim store rand autn fresh
  stays a e same = record {
    usim_stays = ap (λ (x : HandsetAnswer). x.usim) e ∙ same.0;
    store_stays = ap (λ (x : HandsetAnswer). x.store) e ∙ same.1;
    fresh_stays = ap (λ (x : HandsetAnswer). x.fresh) e ∙ same.2;
  }

  unchanged : (o : Outcome) → answer.outcome ≡ o → (o ≡ accepted → ⊥) → Unchanged scheme family usim store rand autn fresh
  unfolding answer_with
  unchanged repeated e h = stays _ (is repeated e) (refl, refl, refl)
  unchanged accepted e h = absurd (h refl)
  unchanged mac_failure e h = stays _ (is mac_failure e) (refl, refl, refl)
  unchanged sync_failure e h = stays _ (is sync_failure e) (refl, refl, refl)
  unchanged (refused number) e h = stays _ (is (refused number) e) (refl, refl, refl)

  handed_number : (v : card.Verdict) → refusal_of (handed_on v) ≡ card.refusal_of v
  handed_number card.accepted = refl
  handed_number card.mac_failure = refl
  handed_number card.sync_failure = refl
  handed_number (card.refused number) = refl

  wrong : (LengthsNamed store rand autn fresh → ⊥) → answer ≡ nothing_shown usim store fresh (refused 3) (zeros auts_size)
  wrong h = known.wrong_length scheme family usim store rand autn fresh (not_fit store rand autn fresh h)

  asks : LengthsNamed store rand autn fresh → repeats store rand ≡ false
      → answer.outcome ≡ handed_on (challenge scheme family usim rand autn).verdict
  asks n other = known.asks_card scheme family usim store rand autn fresh (fits store rand autn fresh n) other

  laws : HandsetLaws scheme family usim store rand autn fresh
  unfolding answer_with
  laws = record {
    refusal3 = wrong;
    number3 = λ h. ap (λ (x : HandsetAnswer). refusal_of x.outcome) (wrong h);
    number0 = λ e. ap refusal_of e;
    number = λ n other. ap refusal_of (asks n other) ∙ handed_number (challenge scheme family usim rand autn).verdict;
    same = λ n same. ap (λ (x : HandsetAnswer). x.outcome)
        (known.repeats_it scheme family usim store rand autn fresh (fits store rand autn fresh n) same);
    other = asks;
    taken = taken;
    repeated_shown = λ e. ap (λ (x : HandsetAnswer). x.shown) (is repeated e);
    empty = λ h g. empty answer.outcome refl h g;
    auts = λ e. ap (λ (x : HandsetAnswer). x.auts) (is sync_failure e);
    no_auts = λ h. no_auts answer.outcome refl h;
    unchanged = λ h. unchanged answer.outcome refl h;
  }

-- ---- the store

held : (octets rand : Octets) → (repeats (record { held = true; octets = octets }) rand ≡ true) ↔ (part 0 16 octets ≡ rand)
unfolding repeats
held octets rand = (λ e. equal_true (part 0 16 octets) rand e, λ e. rw e (equal_self rand))

unheld : (octets rand : Octets) → repeats (record { held = false; octets = octets }) rand ≡ false
unfolding repeats
unheld octets rand = refl

clears : (store : Store) → length store.octets ≡ 56
    → clear store ≡ record { refusal = 0; store = record { held = false; octets = zeros 56 } }
unfolding clear
clears store size = rw size

clear_refusal3 : (store : Store) → (length store.octets ≡ 56 → ⊥) → clear store ≡ record { refusal = 3; store = store }
unfolding clear
clear_refusal3 store h = rw (ne_eqb (length store.octets) 56 h)

pub handset_promise : (scheme : Scheme) (family : Family) → HandsetPromise scheme family
handset_promise scheme family = record {
  laws = laws scheme family;
  unheld = unheld;
  held = held;
  clears = clears;
  clear_refusal3 = clear_refusal3;
  in_order_lem = λ lawful usim shaped store rand autn fresh. known.in_order_lem scheme family usim store rand autn fresh lawful shaped;
}
