-- `f1s` is f1* of either set.
use Rattle.std.proofs.Common.{◌∙◌}
use Rattle.functions.proofs.Prepared.{mac_s}
use Rattle.functions.proofs.PreparedRand.f1s.Goals as goal

pub returns : goal.returns
returns c = c.mac_at.ensures ∙ mac_s c.args.self.now c.args.sqn c.args.amf
