-- The places before k are good.
use Rattle.std.proofs.Common.{◌≡◌, true}
use Rattle.aka.specs.Vlr.{good_places}
use Rattle.vlr_record.proofs.queue.are_good.Given as goal

abbrev pub invariant-loop-k : goal.invariant-loop-k
invariant-loop-k l = good_places l.queue l.k ≡ true
