-- `output` is OUT2 to OUT5, step by step.
use Rattle.milenage.proofs.Sums.{output}
use Rattle.milenage.proofs.Outputs.output.Goals as goal

pub returns : goal.returns
returns c = output _ _ _ _ _ c.bitxor.ensures c.turned-turned.ensures c.with_constant.ensures c.masked.ensures
