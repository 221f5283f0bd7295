-- `out1` is OUT1.
use Rattle.milenage.proofs.Sums.{output1}
use Rattle.milenage.proofs.Outputs.out1.Goals as goal

pub returns : goal.returns
returns c = output1 _ _ _ _ c.bitxor.ensures c.turned-turned.ensures c.bitxor-2.ensures c.masked.ensures
