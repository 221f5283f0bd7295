-- `triplet` is RAND, SRES and Kc, one behind the other.
use Rattle.std.proofs.Common.{[], ◌++◌, ◌≡◌, length, refl, ap, ap₂, ◌∙◌, append_assoc, arith}
use Rattle.octets.specs.Octets.{Octets, zeros, part}
use Rattle.octets.proofs.Parts.{length_part}
use Rattle.octets.proofs.PartByPart.{put_next, filled_all}
use Rattle.aka.specs.Layout.{rand_size, sres_size, kc_size, triplet_size, read_vector, write_triplet}
use Rattle.aka.specs.Triplets.{triplet_of}
use Rattle.triplets.proofs.triplet.Goals as goal

pub returns : goal.returns
unfolding write_triplet triplet_of read_vector
returns c =
    let rand = part 0 rand_size c.args.vector.now in
    let sres = c.sres.result in
    let kc = c.kc.result in
    let rand_long : length rand ≡ rand_size = length_part 0 rand_size c.args.vector.now (omega arith) in
    let sres_long : length sres ≡ sres_size = c.sres.type_inv.1.0.1 in
    let kc_long : length kc ≡ kc_size = c.kc.type_inv.1.0.1 in
    let one =
    put_next {d = zeros triplet_size} {done = []} {at = 0} rand rand_size (record { size = refl; is = refl })
    (rw rand_long at c.put.ensures)
    c.put.auto.buffer (omega arith) in
    let two = put_next sres sres_size one (rw sres_long at c.put-2.ensures) (c.put-2.auto.buffer ∙ c.put.auto.buffer) (omega arith) in
    let all = put_next kc kc_size two (rw kc_long at c.put-3.ensures)
    (c.put-3.auto.buffer ∙ c.put-2.auto.buffer ∙ c.put.auto.buffer) (omega arith) in
    filled_all all refl
    ∙ append_assoc rand sres kc
    ∙ ap (λ (l : Octets). rand ++ l) (ap₂ (λ (x y : Octets). x ++ y) c.sres.ensures c.kc.ensures)
