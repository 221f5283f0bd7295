-- MAC is compared with XMAC.
use Rattle.std.proofs.Common.{ap₂, ◌∙◌}
use Rattle.octets.specs.Octets.{Octets, equal}
use Rattle.functions.specs.Sets.{sets}
use Rattle.aka.specs.Layout.{read_autn}
use Rattle.aka.specs.Usim.{mac_right}
use Rattle.functions.proofs.Prepared.{gives}
use Rattle.usim.proofs.mac_right.Goals as goal

pub returns : goal.returns
unfolding read_autn mac_right
returns c = λ keys rand s e.
    let law = gives keys rand c.args.prepared.now s in
    c.equal_without_early_end.ensures
    ∙ ap₂ equal c.piece-mac.ensures
    (c.f1-expected.ensures ∙ law.f1 _ _ ∙ ap₂ (λ (sqn amf : Octets). (sets.under keys).f1 sqn rand amf) e c.amf_in.ensures)
