-- The lengths are judged, then RAND; then the card is asked.
use Prim.Native.Nat.{ℕ}
use Rattle.std.proofs.Common.{true, false, ◌&&◌, ◌≡◌, sym, ap, ◌∙◌, eqb, length}
use borrow.Author.Tests.{ne_eqb}
use Rattle.octets.specs.Octets.{Octets}
use Rattle.functions.specs.Sets.{sets}
use Rattle.aka.specs.Layout.{autn_size}
use Rattle.aka.specs.Editions.{editions}
use Rattle.aka.specs.Handset.{Store, parts_right, answer_with, refused, told}
use Rattle.aka.proofs.Handset.{wrong_length, repeats_it}
use Rattle.usim_record.specs.Views.{usim_of}
use Rattle.handset_store.specs.Views.{store_of}
use Rattle.handset.specs.Views.{unasked}
use Rattle.handset.proofs.Asked.{asks}
use Rattle.handset.proofs.answer.Goals as goal
use Rattle.handset.proofs.answer.Goals.{then-not-lengths_right-via-then-not-lengths_right}
use Rattle.handset.proofs.answer.Goals.{then-not-lengths_right-via-else-not-lengths_right+then-autn-ne-AUTN_SIZE}

module _ (store : Store) (rand autn fresh : Octets) where
  parts_wrong : parts_right store rand fresh ≡ false → (parts_right store rand fresh && eqb (length autn) autn_size) ≡ false
  parts_wrong e = rw e

  autn_wrong : parts_right store rand fresh ≡ true → (length autn ≡ autn_size → ⊥)
      → (parts_right store rand fresh && eqb (length autn) autn_size) ≡ false
  autn_wrong e n = rw (e, ne_eqb (length autn) autn_size n)

  fit : parts_right store rand fresh ≡ true → length autn ≡ autn_size
      → (parts_right store rand fresh && eqb (length autn) autn_size) ≡ true
  fit e n = rw (e, n)

pub returns-then-not-lengths_right-clause-answer : goal.returns-then-not-lengths_right-clause-answer
unfolding parts_right
returns-then-not-lengths_right-clause-answer c =
    let a = c.args in
    let store = store_of a.held a.stored.now in
    let wrong : (parts_right store a.rand.now a.fresh.now && eqb (length a.autn.now) autn_size) ≡ false =
    elim c.then-not-lengths_right.branch [
      | then-not-lengths_right-via-then-not-lengths_right w ↦
          parts_wrong store a.rand.now a.autn.now a.fresh.now (sym c.lengths_right.ensures ∙ w.if-not-lengths_right.true)
      | then-not-lengths_right-via-else-not-lengths_right+then-autn-ne-AUTN_SIZE w ↦
          autn_wrong store a.rand.now a.autn.now a.fresh.now (sym c.lengths_right.ensures ∙ w.if-not-lengths_right.false)
          w.if-autn-ne-AUTN_SIZE.true
    ] in
    c.without_card.ensures a.fresh.now
    ∙ ap (λ (number : ℕ). unasked (refused number) (usim_of a.usim) a.fresh.now) c.number.ensures
    ∙ sym (ap told (wrong_length editions sets _ _ _ _ _ wrong))

pub returns-then-repeats-clause-answer : goal.returns-then-repeats-clause-answer
unfolding parts_right answer_with
returns-then-repeats-clause-answer c =
    let a = c.args in
    let store = store_of a.held a.stored.now in
    let right = sym c.lengths_right.ensures ∙ c.if-not-lengths_right.false in
    let fits = fit store a.rand.now a.autn.now a.fresh.now right c.if-autn-ne-AUTN_SIZE.false in
    let same = sym c.repeats.ensures ∙ c.if-repeats.true in
    c.without_card-then-repeats.ensures a.fresh.now ∙ sym (ap told (repeats_it editions sets _ _ _ _ _ fits same))

pub returns-clause-answer : goal.returns-clause-answer
unfolding parts_right
returns-clause-answer c =
    let a = c.args in
    let store = store_of a.held a.stored.now in
    let right = sym c.lengths_right.ensures ∙ c.if-not-lengths_right.false in
    let fits = fit store a.rand.now a.autn.now a.fresh.now right c.if-autn-ne-AUTN_SIZE.false in
    c.ask.ensures.answer ∙ sym (asks editions sets _ _ _ _ _ fits (sym c.repeats.ensures ∙ c.if-repeats.false))
