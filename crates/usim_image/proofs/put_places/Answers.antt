-- The packed places are the last part of the image.
use Rattle.std.proofs.Common.{ℕ, ◌+◌, ◌-◌, ◌*◌, ◌^◌, ◌≤◌, ◌≡◌, List, ◌++◌, length, take, drop, refl, sym, ap, ap₂, ◌∙◌, arith}
use mathlib.Core.List.{append-nil}
use borrow.Rule.Slice.PartMut.{put_mid}
use lib.ListN.{drop_of_length-le}
use lib.Seq.{take-length}
use Rattle.octets.specs.Octets.{Octets, number, encode}
use Rattle.octets.proofs.Copies.{copied_at}
use Rattle.packing.specs.Packing.{packed}
use Rattle.packing.proofs.Repacked.{front_packed}
use Rattle.aka.specs.Sequence.{width_of}
use Rattle.aka.specs.Editions.{editions}
use Rattle.editions.specs.Views.{most_octets}
use Rattle.usim_image.specs.Image.{places_at, places_size}
use Rattle.usim_image.proofs.Rows.{count, bits_fit, whole}
use Rattle.usim_image.proofs.put_places.Goals as goal

-- the octets of the room, eight more than are used
abbrev room_size : ℕ
room_size = most_octets + 8

-- octets copied over all that is left from `at` on
put_last : (s d : Octets) (at : ℕ) {t : Octets} → length d ≡ at + length s → t ≡ s ++ drop (length s) (take (length d - at) (drop at d))
    → put_mid at (length d - at) d t ≡ take at d ++ s
put_last s d at size e =
    copied_at s d at (length d) refl (rw (take-length s) e) (omega arith)
    ∙ rw (drop_of_length-le d {i = at + length s} (omega arith), append-nil) refl

-- the first octets of the room are those of the packed numbers
packed_front : (bits octets : ℕ) (l : List ℕ) {room : Octets} → bits * length l ≡ 8 * octets → octets ≤ most_octets
    → room ≡ packed bits room_size l → take octets room ≡ encode octets (number (2 ^ bits) l)
packed_front bits octets l full few e =
    let split : room_size ≡ octets + (room_size - octets) = omega arith in
    ap (take octets) (e ∙ ap (λ (n : ℕ). packed bits n l) split) ∙ front_packed bits octets (room_size - octets) l full

pub pack-requires-clause-width : goal.pack-requires-clause-width
pack-requires-clause-width c = bits_fit c.args.edition c.row-m.ensures

pub pack-requires-clause-lengths : goal.pack-requires-clause-lengths
pack-requires-clause-lengths c =
    let r = c.row-m.result in
    let n = c.row-m.ensures in
    let counted = count r.indices c.args.places (omega (arith, n.indices.inside)) in
    let full = ap (λ (n : ℕ). r.bits * n) counted ∙ whole c.args.edition n in
    (omega (arith, full, n.few), omega arith)

pub returns : goal.returns
returns c =
    let r = c.row-m.result in
    let n = c.row-m.ensures in
    let d = c.args.image.now in
    let w = width_of editions c.args.edition in
    let front = take r.indices c.args.places in
    let full = ap (λ (n : ℕ). r.bits * n) (count r.indices c.args.places (omega (arith, n.indices.inside))) ∙ whole c.args.edition n in
    let taken = count r.octets c.pack.new.dst (omega (arith, n.few, c.pack.auto.dst)) in
    let size = c.requires.size ∙ ap (λ (k : ℕ). places_at + k) (sym n.octets) ∙ ap (λ (k : ℕ). places_at + k) (sym taken) in
    put_last (take r.octets c.pack.new.dst) d places_at size c.copy.ensures.octets
    ∙ ap (λ (l : Octets). take places_at d ++ l)
    (packed_front r.bits r.octets front full n.few c.pack.ensures
    ∙ ap (λ (k : ℕ). encode k (number (2 ^ r.bits) front)) n.octets
    ∙ ap₂ (λ (b i : ℕ). encode (places_size w) (number (2 ^ b) (take i c.args.places))) n.bits n.indices.number)
