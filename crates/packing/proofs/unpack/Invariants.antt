-- The first i numbers are taken.
use Rattle.std.proofs.Common.{length}
use Rattle.octets.specs.Octets.{decode}
use Rattle.packing.proofs.Reading.{Unpacked}
use Rattle.packing.proofs.unpack.Given as goal

abbrev pub invariant-loop-i : goal.invariant-loop-i
invariant-loop-i l = Unpacked (decode l.x) l.bits (length l.initial.dst) l.dst l.left l.i
