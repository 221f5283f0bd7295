-- `double` is xtime. Assumes nothing.
use Rattle.std.proofs.Common.{arith}
use Rattle.gf256.proofs.Laws.{xtime_shift}
use Rattle.gf256.proofs.double.Goals as goal

pub returns : goal.returns
returns c = xtime_shift c.args.b (omega arith)
