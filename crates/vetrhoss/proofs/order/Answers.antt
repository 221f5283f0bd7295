-- The record that was read is valid, and so is the next.
use Rattle.std.proofs.Common.{ap, ◌∙◌}
use Rattle.functions.specs.Sets.{sets}
use Rattle.functions.proofs.Protocol.{auc_holds}
use Rattle.aka.specs.Auc.{AucAnswer, valid_auc}
use Rattle.aka.specs.Editions.{editions}
use Rattle.vetrhoss.proofs.order.Goals as goal

pub hand_on-requires : goal.hand_on-requires
hand_on-requires c =
    let sound = c.in_ok-auc.ensures.sound in
    let stays = (auc_holds.orders _ _ _ _).stays_valid sound.1 in
    (ap (λ (a : AucAnswer). valid_auc editions sets a.auc) c.order-a.ensures.answer ∙ stays, sound.0)
