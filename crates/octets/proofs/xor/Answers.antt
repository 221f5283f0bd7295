use Rattle.std.proofs.Common.{◌∙◌, arith}
use Rattle.octets.proofs.XorLaws.{summed_next, summed_none, summed_all}
use Rattle.octets.proofs.xor.Goals as goal

pub loop-i-init : goal.loop-i-init
loop-i-init g c = summed_none c.args.x c.args.y

pub loop-i-preserved : goal.loop-i-preserved
loop-i-preserved g c = summed_next c.loop-i.i c.args.x c.args.y c.loop-i.invariant (omega arith) (omega arith)

pub returns : goal.returns
returns g c = c.loop-i.invariant ∙ summed_all c.args.x c.args.y c.loop-i.i (omega arith) (omega arith)
