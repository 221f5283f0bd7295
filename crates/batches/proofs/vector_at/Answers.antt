-- `vector_at` is the vector at place k: the part of the batch that begins at its offset.
use Rattle.std.proofs.Common.{sym, arith}
use Rattle.aka.proofs.Offsets.{offset_inside}
use Rattle.batches.proofs.vector_at.Goals as goal

pub overflow_add-result : goal.overflow_add-result
overflow_add-result c = omega (arith, (offset_inside _ _ c.in-Some.at (sym c.in-Some.ensures)).fits)

pub slice_bounds-result-end-2 : goal.slice_bounds-result-end-2
slice_bounds-result-end-2 c = omega (arith, (offset_inside _ _ c.in-Some.at (sym c.in-Some.ensures)).fits)
