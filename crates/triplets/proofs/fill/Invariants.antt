-- So far the triplets of k vectors.
use Rattle.std.proofs.Common.{◌*◌}
use Rattle.octets.proofs.PartByPart.{Filled}
use Rattle.aka.specs.Layout.{triplet_size}
use Rattle.aka.specs.Triplets.{triplets_of}
use Rattle.triplets.proofs.fill.Given as goal

abbrev pub invariant-loop-k : goal.invariant-loop-k
invariant-loop-k l = Filled l.initial.triplets (triplets_of l.batch l.k) (triplet_size * l.k) l.triplets
