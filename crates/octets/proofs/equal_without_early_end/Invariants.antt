-- No difference so far, and the octets that are left, decide.
use Rattle.std.proofs.Common.{length, ◌≡◌, ◌&&◌}
use lib.Dec.{eqb}
use Rattle.octets.specs.Octets.{equal}
use Rattle.octets.proofs.equal_without_early_end.Given as goal

abbrev pub invariant-loop-a : goal.invariant-loop-a
invariant-loop-a l =
    let x = l.a-iterator.a.rest.now in
    let y = l.a-iterator.b.rest.now in
    record { size : length x ≡ length y; decides : equal l.x l.y ≡ (eqb l.differences 0 && equal x y) }
