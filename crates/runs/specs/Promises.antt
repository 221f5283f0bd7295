-- What the contracts of `usim::challenge`, `auc::order` and `auc::resynchronise` say of their answers, and of the records that they were
-- given: all that the claims over several calls take of the running code. Assumes nothing: these are definitions.
use Rattle.std.specs.Prelude.{ℕ, ◌≡◌}
use Rattle.octets.specs.Octets.{Octets}
use Rattle.functions.specs.Sets.{sets}
use Rattle.aka.specs.Editions.{editions}
use Rattle.aka.specs.Usim.{UsimShaped, challenge}
use Rattle.aka.specs.Auc.{AucShaped, order, resync}
use Rattle.usim_record.specs.declared.Usim.{Usim}
use Rattle.usim_record.specs.declared.Answer as card
use Rattle.usim_record.specs.Views as card_views
use Rattle.auc_record.specs.declared.Auc.{Auc}
use Rattle.auc_record.specs.declared.Answer as centre
use Rattle.auc_record.specs.Views as centre_views

-- of the card; the SQN is the one that an acceptance gives
pub record Answered (usim : Usim) (rand autn : Octets) (answer : card.Answer) : Type 0 where
  pub answer_is : card_views.answer_of answer ≡ challenge editions sets (card_views.usim_of usim) rand autn
  pub sqn_told : card_views.SqnTold answer.verdict (card_views.usim_of usim) rand autn
  pub shape : UsimShaped editions (card_views.usim_of usim)

-- of the centre; `batch` is what the buffer holds at the end
pub record Ordered (auc : Auc) (count : ℕ) (rands buffer : Octets) (answer : centre.Answer) (batch : Octets) : Type 0 where
  pub answer_is : centre_views.answer_of answer batch ≡ order editions sets (centre_views.auc_of auc) count rands buffer
  pub shape : AucShaped (centre_views.auc_of auc)

pub record Resynchronised (auc : Auc) (count : ℕ) (rands buffer rand auts : Octets) (answer : centre.Answer) (batch : Octets) : Type 0 where
  pub answer_is : centre_views.answer_of answer batch ≡ resync editions sets (centre_views.auc_of auc) count rands buffer rand auts
  pub shape : AucShaped (centre_views.auc_of auc)
