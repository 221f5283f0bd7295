use Rattle.std.proofs.Common.{length, ◌∙◌, refl, arith}
use Rattle.packing.proofs.Reading.{unpacked_none, unpacked_next, unpacked_all, unpacked_behind}
use Rattle.packing.proofs.unpack.Goals as goal

pub loop-i-init : goal.loop-i-init
loop-i-init c = unpacked_none refl c.requires.all

pub loop-i-preserved : goal.loop-i-preserved
loop-i-preserved c = rw c.place.ensures (unpacked_next c.loop-i.invariant (omega (arith, c.loop-i.invariant.size)))

pub returns : goal.returns
returns c =
    let l = c.loop-i in
    unpacked_all l.invariant (omega (arith, l.invariant.size))
    ∙ unpacked_behind c.args.x.now c.args.at c.args.bits (length c.args.dst.now) (omega arith) c.requires.all
