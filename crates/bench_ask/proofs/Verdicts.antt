-- From the card's verdict to what the desk does. Assumes nothing.
use Prim.Native.Nat.{ℕ}
use mathlib.Core.Path.{◌≡◌, ap, ◌∙◌}
use Rattle.octets.specs.Octets.{decode}
use Rattle.functions.specs.Sets.{sets}
use Rattle.aka.specs.Usim as card
use Rattle.aka.specs.Vlr as node
use Rattle.aka.specs.Editions.{editions}
use Rattle.usim_record.specs.declared.Verdict.{Verdict}
use Rattle.usim_record.specs.declared.Verdict.TheVariants.{Accepted}
use Rattle.usim_record.specs.Views.{verdict_of, sqn_given, sqn_due}
use Rattle.bench_desk.specs.Desk.{Desk, DeskAnswer, ask_answer, card_answer, sqn_asked, on_verdict}

module _ (desk : Desk) where
  -- the verdict as the code found it
  pub on : (vlr : node.Vlr) (a : card.UsimAnswer) (sqn : ℕ) {r : DeskAnswer} {v w : Verdict} → v ≡ w
      → r ≡ on_verdict desk vlr a sqn (verdict_of w) → r ≡ on_verdict desk vlr a sqn (verdict_of v)
  on vlr a sqn e h = rw e h

  -- the challenge is the one that was asked
  module _ {q : node.VlrAnswer} (asked : q ≡ ask_answer desk) where
    pub card_is : {a : card.UsimAnswer} → a ≡ card.challenge editions sets desk.usim q.rand q.autn → a ≡ card_answer desk
    unfolding card_answer
    card_is is = is ∙ ap (λ (q : node.VlrAnswer). card.challenge editions sets desk.usim q.rand q.autn) asked

    pub sqn_is : {v : Verdict} {sqn : ℕ} → v ≡ Accepted sqn → sqn_given v ≡ sqn_due (verdict_of v) desk.usim q.rand q.autn
        → sqn ≡ sqn_asked desk
    sqn_is is h =
        (rw is at h) ∙ ap (λ (q : node.VlrAnswer). decode (card.sqn_in (sets.under desk.usim.keys) q.rand q.autn)) asked

    -- what follows the card's answer, at the node that asked
    pub follows : {a : card.UsimAnswer} {sqn : ℕ} {r : DeskAnswer} → a ≡ card_answer desk
        → r ≡ on_verdict desk q.vlr a sqn a.verdict → sqn ≡ sqn_asked desk
        → r ≡ on_verdict desk (ask_answer desk).vlr (card_answer desk) (sqn_asked desk) (card_answer desk).verdict
    follows is h s = rw (is, s, asked) at h
