-- `entry` is what the table has for the octet. Assumes nothing.
use Rattle.std.proofs.Common.{arith}
use Rattle.octets.specs.Octets.{digits}
use Rattle.aes_tables.specs.RoundTable.{IsRoundTable}
use Rattle.aes.proofs.entry.Goals as goal

pub returns : goal.returns
unfolding digits IsRoundTable
returns c = c.round_table.ensures _ (omega arith)
