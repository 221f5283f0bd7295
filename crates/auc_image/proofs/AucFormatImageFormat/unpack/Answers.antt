-- `unpack` reads each part; the last two are of one number.
use Rattle.std.proofs.Common.{◌≡◌, ℕ, ◌+◌, ◌/◌, ◌%◌, sym, ap, ap₂, ◌∙◌, arith}
use Rattle.octets.specs.Octets.{part, decode}
use Rattle.octets.proofs.Parts.{length_part}
use Rattle.octets.proofs.Ranges.{below_part}
use Rattle.aka.specs.Layout.{sqn_size}
use Rattle.aka.specs.Sequence.{sqn_bits, width_of, indices, seq_bits}
use Rattle.aka.specs.Editions.{editions}
use Rattle.aka.proofs.Editions.{fitting}
use Rattle.images.specs.Head.{edition_in}
use Rattle.auc_image.specs.Image.{counters_at, read_image}
use Rattle.auc_image.proofs.Bits.{first_number, second_number}
use Rattle.auc_image.proofs.AucFormatImageFormat.unpack.Goals as goal

pub returns : goal.returns
unfolding read_image
returns c =
    let x = c.args.image.now in
    let w = width_of editions (edition_in x) in
    let last = part counters_at sqn_size x in
    let octets = below_part 256 counters_at sqn_size x (omega arith) (λ i h. (c.type_inv.image i).fits) in
    let size = length_part counters_at sqn_size x (omega arith) in
    let filled : seq_bits w + w ≡ sqn_bits = omega (arith, fitting.width (edition_in x)) in
    let counters = c.sqn_number-counters.ensures.0 ∙ ap decode c.array.ensures in
    let row : c.row-m.result.indices ≡ indices w =
    c.row-m.ensures.indices.number ∙ ap (λ (e : ℕ). indices (width_of editions e)) c.edition_in-edition.ensures in
    λ i. record {
      edition = c.edition_in-edition.ensures i;
      keys = c.keys_in.ensures i;
      amf = c.array-2.ensures i;
      seqhe = (ap₂ (λ (n m : ℕ). n / m) counters row ∙ sym (first_number (seq_bits w) w filled last size octets)) i;
      next = (ap₂ (λ (n m : ℕ). n % m) counters row ∙ sym (second_number (seq_bits w) w filled last)) i;
    }
