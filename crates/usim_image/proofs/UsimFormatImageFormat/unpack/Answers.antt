-- Edition, head and places are read.
use Rattle.std.proofs.Common.{ℕ, ◌-◌, ◌^◌, List, ◌++◌, drop, length-drop, sym, ap, ◌∙◌, arith}
use lib.Seq.{take_all}
use Rattle.octets.specs.Octets.{Octets, zeros, decode, digits}
use Rattle.aka.specs.Sequence.{width_of, indices, seq_bits}
use Rattle.aka.specs.Editions.{editions, card_places}
use Rattle.images.specs.Head.{edition_in}
use Rattle.usim_image.specs.Image.{places_at, places_size, read_image}
use Rattle.usim_image.proofs.UsimFormatImageFormat.unpack.Goals as goal

abbrev read : (w : ℕ) → Octets → List ℕ
read w x = digits (2 ^ seq_bits w) (indices w) (decode x) ++ zeros (card_places - indices w)

pub returns : goal.returns
unfolding read_image
returns c =
    let x = c.args.image.now in
    let w = width_of editions (edition_in x) in
    let all = take_all (places_size w) (drop places_at x) (omega (arith, length-drop places_at x, c.requires)) in
    λ i. record {
      edition = c.edition_in-edition.ensures i;
      keys = c.keys_in.ensures i;
      places = (c.unpack_places.ensures
          ∙ ap (λ (e : ℕ). read (width_of editions e) (drop places_at x)) c.edition_in-edition.ensures
          ∙ ap (read w) (sym all)) i;
    }
