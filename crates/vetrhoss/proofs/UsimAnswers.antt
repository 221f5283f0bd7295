-- The card's answer as the call hands it on. Assumes nothing.
use Prim.Native.Nat.{ℕ}
use mathlib.Core.Bool.{true}
use mathlib.Core.Path.{◌≡◌, ap, ◌∙◌}
use Rattle.octets.specs.Octets.{Octets, decode}
use Rattle.functions.specs.Sets.{sets}
use Rattle.aka.specs.Sequence.{FitsSqn}
use Rattle.aka.specs.Editions.{editions}
use Rattle.aka.proofs.Editions.{fitting}
use Rattle.aka.specs.Usim.{Usim, UsimAnswer, Verdict, accepted, valid_usim, sqn_in, challenge}
use Rattle.aka.proofs.Verdicts as law
use Rattle.usim_record.specs.Views.{sqn_due}

module _ (card : Usim) (rand autn : Octets) where
  abbrev due : UsimAnswer
  due = challenge editions sets card rand autn

  -- an acceptance has the SQN of AUTN
  sqn_fits : (v : Verdict) → v ≡ accepted → FitsSqn (sqn_due v card rand autn)
      → FitsSqn (decode (sqn_in (sets.under card.keys) rand autn))
  sqn_fits v q h = rw q at h

  -- the next record is of the same edition
  pub same_edition : (a : UsimAnswer) → a ≡ due → a.usim.edition ≡ card.edition
  same_edition a e = ap (λ (b : UsimAnswer). b.usim.edition) e ∙ law.same_edition editions sets card rand autn

  -- and valid
  pub next_valid : valid_usim editions sets card ≡ true → (a : UsimAnswer) {sqn : ℕ} → a ≡ due → sqn ≡ sqn_due a.verdict card rand autn
      → FitsSqn sqn → valid_usim editions sets a.usim ≡ true
  next_valid valid a e s fits =
      let verdict = ap (λ (b : UsimAnswer). b.verdict) e in
      ap (λ (b : UsimAnswer). valid_usim editions sets b.usim) e
      ∙ law.next_valid editions sets card rand autn fitting valid (λ q. sqn_fits a.verdict (verdict ∙ q) (rw s at fits))
