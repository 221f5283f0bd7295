-- `mac_s_right` compares MAC-S with XMAC-S.
use Rattle.std.proofs.Common.{ap, ap₂, ◌∙◌}
use Rattle.octets.specs.Octets.{Octets, equal}
use Rattle.functions.specs.Sets.{sets}
use Rattle.functions.proofs.Prepared.{gives}
use Rattle.aka.specs.Functions.{dummy_amf}
use Rattle.aka.specs.Auc.{mac_s_right}
use Rattle.resynchronisation.proofs.mac_s_right.Goals as goal

pub returns : goal.returns
unfolding mac_s_right
returns c = λ keys rand s e.
    c.equal_without_early_end.ensures
    ∙ ap₂ equal c.mac_s_in-mac.ensures
    (c.f1s-expected.ensures
    ∙ (gives keys rand c.args.prepared.now s).f1* _ _
    ∙ ap (λ (sqn : Octets). (sets.under keys).f1* sqn rand dummy_amf) e)
