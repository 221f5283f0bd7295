-- One number is read in digits of the width of a SEQ.
use Rattle.std.proofs.Common.{ℕ, ◌+◌, ◌-◌, ◌*◌, ◌^◌, List, ◌++◌, drop, sym, ap, ap₂, ◌∙◌, arith}
use Rattle.octets.specs.Octets.{zeros, decode, digits}
use Rattle.aka.specs.Editions.{card_places}
use Rattle.aka.proofs.Held.{drop_zeros}
use Rattle.usim_image.specs.Image.{places_at}
use Rattle.usim_image.proofs.Rows.{count, whole}
use Rattle.usim_image.proofs.unpack_places.Goals as goal

pub unpack-requires-clause-all : goal.unpack-requires-clause-all
unpack-requires-clause-all c =
    let r = c.row-m.result in
    let n = c.row-m.ensures in
    let size = c.requires ∙ ap (λ (k : ℕ). places_at + k) (sym n.octets) in
    ap (λ (k : ℕ). 8 * (k - places_at)) size
    ∙ ap (λ (k : ℕ). 8 * k) (omega arith)
    ∙ sym (whole c.args.edition n)
    ∙ ap (λ (k : ℕ). r.bits * k) (sym (count r.indices (zeros card_places) n.indices.inside))

pub returns : goal.returns
returns c =
    let r = c.row-m.result in
    let n = c.row-m.ensures in
    let x = c.args.image.now in
    let counted = count r.indices (zeros card_places) n.indices.inside in
    let read = c.unpack.ensures
    ∙ ap₂ (λ (b k : ℕ). digits (2 ^ b) k (decode (drop places_at x))) n.bits (counted ∙ n.indices.number) in
    let behind = drop_zeros r.indices card_places ∙ ap (λ (k : ℕ). zeros (card_places - k)) n.indices.number in
    ap₂ (λ (a b : List ℕ). a ++ b) read behind
