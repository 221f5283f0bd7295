-- `f1` is f1 of either set.
use Rattle.std.proofs.Common.{◌∙◌}
use Rattle.functions.proofs.Prepared.{mac}
use Rattle.functions.proofs.PreparedRand.f1.Goals as goal

pub returns : goal.returns
returns c = c.mac_at.ensures ∙ mac c.args.self.now c.args.sqn c.args.amf
