-- `sres` is c2 of XRES.
use Rattle.std.proofs.Common.{sym, ◌∙◌, arith}
use Rattle.octets.specs.Octets.{part}
use Rattle.octets.proofs.Parts.{length_part}
use Rattle.aka.specs.Layout.{res_size, xres_at, read_vector}
use Rattle.aka.proofs.Triplets.{eight}
use Rattle.triplets.proofs.sres.Goals as goal

pub returns : goal.returns
unfolding read_vector
returns c =
    let vector = c.args.vector.now in
    let size = length_part xres_at res_size vector (omega (arith, c.requires)) in
    c.folded.ensures ∙ sym (eight (part xres_at res_size vector) size)
