-- `write_due` counts what is due.
use Rattle.std.proofs.Common.{ap, length}
use Rattle.console.proofs.write_due.Goals as goal

pub returns : goal.returns
returns g c line = ap length (c.due_part-bytes.ensures line)
