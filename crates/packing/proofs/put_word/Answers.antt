-- Eight octets are put.
use Rattle.std.proofs.Common.{◌++◌, ◌+◌, ap, ◌∙◌, length, take, drop}
use Rattle.octets.specs.Octets.{Octets, digits}
use Rattle.octets.proofs.Bytes.{encoded}
use Rattle.packing.proofs.put_word.Goals as goal

pub returns : goal.returns
unfolding digits
returns c =
    let d = c.args.dst.now in
    let at = c.args.at in
    c.put.ensures
    ∙ ap (λ (l : Octets). take at d ++ l ++ drop (at + length l) d) (c.to_be_bytes.ensures ∙ encoded 8 c.args.x)
