use Rattle.std.proofs.Common.{◌∙◌}
use Rattle.octets.proofs.Comparing.{slices_equal}
use Rattle.octets.proofs.equal.Goals as goal

pub returns : goal.returns
returns c = c.eq.ensures ∙ slices_equal c.args.x.now c.args.y.now
