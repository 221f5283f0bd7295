-- The first i numbers are put.
use Rattle.std.proofs.Common.{length}
use Rattle.packing.proofs.Writing.{Packed}
use Rattle.packing.proofs.pack.Given as goal

abbrev pub invariant-loop-number : goal.invariant-loop-number
invariant-loop-number l = Packed l.bits l.src (length l.initial.dst) l.dst l.used l.held l.number-index
