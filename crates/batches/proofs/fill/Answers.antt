-- `fill` is the batch.
use Rattle.std.proofs.Common.{◌+◌, ◌*◌, ◌≡◌, refl, ap, ◌∙◌, arith}
use Rattle.octets.proofs.PartByPart.{put_next, filled_all}
use Rattle.functions.specs.Sets.{sets}
use Rattle.aka.specs.Layout.{vector_size, write_vector}
use Rattle.aka.specs.Editions.{editions}
use Rattle.aka.specs.Auc.{batch_from, vector_from}
use Rattle.aka.proofs.Steps.{batch_none, batch_next}
use Rattle.batches.specs.Views.{counted_by}
use Rattle.batches.proofs.fill.Goals as goal

pub loop-k-init : goal.loop-k-init
loop-k-init c =
    let none = batch_none editions sets (counted_by c.args.s) c.args.s.from c.args.rands.octets.now in
    rw none (record { size = refl; is = refl })

pub loop-k-preserved : goal.loop-k-preserved
loop-k-preserved c =
    let l = c.loop-k in
    let s = c.args.s in
    let rands = c.args.rands.octets.now in
    let further : vector_size * l.k + vector_size ≡ vector_size * (l.k + 1) = omega arith in
    let vector = write_vector (vector_from editions sets (counted_by s) s.from rands l.k) in
    let next = put_next vector vector_size l.invariant c.put_at.ensures (c.put_at.auto.batch ∙ l.auto.batch) (omega arith) in
    rw (batch_next editions sets (counted_by s) s.from rands l.k, ← further) next

pub returns : goal.returns
returns c =
    let l = c.loop-k in
    let s = c.args.s in
    let end : l.k ≡ c.args.rands.n = omega arith in
    filled_all l.invariant (omega (arith, end)) ∙ ap (batch_from editions sets (counted_by s) s.from c.args.rands.octets.now) end
