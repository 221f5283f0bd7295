-- The vectors before place k are filled in.
use Rattle.std.proofs.Common.{◌*◌}
use Rattle.octets.proofs.PartByPart.{Filled}
use Rattle.functions.specs.Sets.{sets}
use Rattle.aka.specs.Layout.{vector_size}
use Rattle.aka.specs.Editions.{editions}
use Rattle.aka.specs.Auc.{batch_from}
use Rattle.batches.specs.Views.{counted_by}
use Rattle.batches.proofs.fill.Given as goal

abbrev pub invariant-loop-k : goal.invariant-loop-k
invariant-loop-k l =
    let done = batch_from editions sets (counted_by l.s) l.s.from l.rands.octets.now l.k in
    Filled l.initial.batch done (vector_size * l.k) l.batch
