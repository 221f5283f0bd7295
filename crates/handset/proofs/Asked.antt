-- The handset's answer where the card is asked is what the card has said. Assumes nothing.
use mathlib.Core.Bool.{true, false, ◌&&◌}
use mathlib.Core.Path.{◌≡◌, refl, ap, ◌∙◌}
use lib.Dec.{eqb}
use lib.ListN.{length}
use Rattle.octets.specs.Octets.{Octets}
use Rattle.octets.proofs.Absurd.{zero_not_one}
use Rattle.aka.specs.Layout.{autn_size}
use Rattle.aka.specs.Functions.{Family}
use Rattle.aka.specs.Sequence.{Scheme}
use Rattle.aka.specs.Usim.{Usim, UsimAnswer, challenge}
use Rattle.aka.specs.Usim as card
use Rattle.aka.specs.UsimLaws.{UsimLaws}
use Rattle.aka.proofs.UsimLaws.{usim_promise}
use Rattle.aka.specs.Handset.{Store, told, repeats, handed_on, parts_right, challenged, answer_with}
use Rattle.aka.proofs.Handset as known
use Rattle.handset.specs.Views.{asked_with}

module _ (scheme : Scheme) (family : Family) (usim : Usim) (store : Store) (rand autn fresh : Octets) where
  abbrev asked : UsimAnswer
  asked = challenge scheme family usim rand autn

  laws : UsimLaws scheme family usim rand autn
  laws = (usim_promise scheme family).laws usim rand autn

  stays : (asked.verdict ≡ card.accepted → ⊥) → asked.usim ≡ usim
  stays h = ap (λ (a : UsimAnswer). a.usim) (laws.not_accepted h)

  with_verdict : (v : card.Verdict) → asked.verdict ≡ v
      → told (answer_with scheme family usim store rand autn fresh (handed_on asked.verdict)) ≡ asked_with asked fresh
  unfolding answer_with
  with_verdict card.accepted e = rw (e, laws.no_auts (λ q. zero_not_one (cc))) refl
  with_verdict card.mac_failure e = rw (e, stays (λ q. zero_not_one (cc)), laws.no_auts (λ q. zero_not_one (cc))) refl
  with_verdict card.sync_failure e = rw (e, stays (λ q. zero_not_one (cc))) refl
  with_verdict (card.refused number) e = rw (e, stays (λ q. zero_not_one (cc)), laws.no_auts (λ q. zero_not_one (cc))) refl

  pub asks : (parts_right store rand fresh && eqb (length autn) autn_size) ≡ true → repeats store rand ≡ false
      → told (challenged scheme family usim store rand autn fresh) ≡ asked_with asked fresh
  asks fit other =
      ap told
      (known.answer_of_lem scheme family usim store rand autn fresh _ (known.asks_card scheme family usim store rand autn fresh fit other))
      ∙ with_verdict asked.verdict refl
