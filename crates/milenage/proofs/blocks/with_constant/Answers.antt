-- `with_constant` adds the constant.
use Rattle.milenage.proofs.Sums.{added_constant}
use Rattle.milenage.proofs.blocks.with_constant.Goals as goal

pub returns : goal.returns
returns c = added_constant _ _ _ _ _ c.requires
