-- The places are put behind the head.
use Rattle.std.proofs.Common.{◌^◌, ◌++◌, ap, ◌∙◌, take, drop, arith}
use lib.Seq.{take_at}
use Rattle.octets.specs.Octets.{Octets, number, encode}
use Rattle.octets.proofs.PartByPart.{filled}
use Rattle.aka.specs.Sequence.{width_of, indices, seq_bits}
use Rattle.aka.specs.Editions.{editions}
use Rattle.usim_record.specs.Views.{usim_of}
use Rattle.images.specs.Head.{head, head_size}
use Rattle.usim_image.specs.Image.{places_size, image}
use Rattle.usim_image.proofs.UsimFormatImageFormat.fill.Goals as goal

pub returns : goal.returns
unfolding image
returns c =
    let usim = usim_of c.args.held in
    let keys = head usim.edition usim.keys in
    let w = width_of editions usim.edition in
    let d = c.args.image.now in
    let places = encode (places_size w) (number (2 ^ seq_bits w) (take (indices w) usim.places)) in
    let f = filled d keys head_size c.put_head.ensures c.put_head.auto.image (omega arith) in
    c.put_places.ensures
    ∙ ap (λ (l : Octets). l ++ places) (ap (take head_size) f.is ∙ take_at keys (drop head_size d) head_size f.size)
