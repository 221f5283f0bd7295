-- The octets before i are summed, and those from i on are still those of x.
use Rattle.std.proofs.Common.{◌≡◌}
use Rattle.octets.proofs.XorLaws.{summed}
use Rattle.octets.proofs.xor.Given as goal

abbrev pub invariant-loop-i : goal.invariant-loop-i
invariant-loop-i g l = l.octet-items ≡ summed l.i l.fn.x l.fn.y
