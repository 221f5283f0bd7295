-- `is_known` is `is_set`.
use Rattle.std.proofs.Common.{refl}
use Rattle.functions.specs.Sets.{is_set}
use Rattle.functions.proofs.is_known.Goals as goal

pub returns : goal.returns
unfolding is_set
returns c = refl
