-- `fill` puts the triplets one behind the other.
use Rattle.std.proofs.Common.{ℕ, ◌+◌, ◌-◌, ◌*◌, ◌<◌, ◌++◌, ◌≡◌, length, refl, sym, ap, ◌∙◌, subst₂, arith}
use Rattle.octets.specs.Octets.{Octets, part}
use Rattle.octets.proofs.PartByPart.{Filled, put_next, filled_all}
use Rattle.aka.specs.Layout.{triplet_size, vector_size, read_vector, write_triplet, vector_at, joined}
use Rattle.aka.specs.Triplets.{triplet_of, triplets_of}
use Rattle.aka.proofs.Layouts.{joined_next}
use Rattle.aka.proofs.Triplets.{length_each}
use Rattle.triplets.proofs.fill.Goals as goal

pub loop-k-init : goal.loop-k-init
unfolding joined
loop-k-init c = record { size = refl; is = refl }

-- the triplet of the vector at place k
module _ (batch made : Octets) (n k : ℕ)
    (is : made ≡ write_triplet
    (triplet_of (read_vector (part (vector_size * k) (vector_size * k + vector_size - vector_size * k) batch)))) where
  one : made ≡ write_triplet (triplet_of (vector_at batch k))
  one =
      let size : vector_size * k + vector_size - vector_size * k ≡ vector_size = omega arith in
      is ∙ ap (λ (m : ℕ). write_triplet (triplet_of (read_vector (part (vector_size * k) m batch)))) size

  one_size : length batch ≡ vector_size * n → k < n → length made ≡ triplet_size
  one_size whole lt = ap length one ∙ length_each batch n whole k lt

pub loop-k-preserved : goal.loop-k-preserved
loop-k-preserved c =
    let batch = c.args.batch.now in
    let made = c.triplet-made.result in
    let k = c.loop-k.k in
    let size = one_size batch made c.args.n k c.triplet-made.ensures c.requires.1 (omega arith) in
    let further : triplet_size * k + triplet_size ≡ triplet_size * (k + 1) = omega arith in
    let next = put_next made triplet_size c.loop-k.invariant (rw size at c.put.ensures) (c.put.auto.buffer ∙ c.loop-k.auto.triplets)
    (omega arith) in
    let more = ap (λ (x : Octets). triplets_of batch k ++ x) (one batch made c.args.n k c.triplet-made.ensures) ∙ sym (joined_next _ k) in
    subst₂ (λ (d : Octets) (m : ℕ). Filled c.args.triplets.now d m c.put.new.buffer) more further next

pub returns : goal.returns
returns c =
    let l = c.loop-k in
    let end : l.k ≡ c.args.n = omega arith in
    filled_all l.invariant (omega (arith, end, c.requires.2)) ∙ ap (triplets_of c.args.batch.now) end
