-- The parts of a head are put behind each other.
use Rattle.std.proofs.Common.{◌≡◌, ◌∙◌, length, length-set, arith, rules}
use Rattle.octets.proofs.PartByPart.{put_first, put_next}
use Rattle.aka.specs.Layout.{key_size}
use Rattle.images.specs.Head.{head}
use Rattle.images.proofs.put_head.Goals as goal

pub returns : goal.returns
unfolding head
returns c =
    let args = c.args in
    let k : length args.keys.k ≡ key_size = search rules in
    let opc : length args.keys.opc ≡ key_size = search rules in
    let same : length c.put.new.buffer ≡ length args.image.now = simp length-set at c.put.auto.buffer in
    let set = put_first args.image.now _ (omega arith) in
    let both = put_next args.keys.k key_size set (rw k at c.put.ensures) same (omega arith) in
    (put_next args.keys.opc key_size both (rw opc at c.put-2.ensures) (c.put-2.auto.buffer ∙ same) (omega arith)).is
