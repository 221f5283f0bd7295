-- `with_batch` puts the items of the batch behind the places in use.
use Rattle.std.proofs.Common.{ℕ, ◌+◌, ◌*◌, ◌≡◌, ◌++◌, sym, ap, ap₂, ◌∙◌, length, take, drop, arith}
use mathlib.Core.List.{append-nil, append_assoc}
use mathlib.Core.Path.{subst₂}
use lib.ListN.{take-append-drop}
use lib.Seq.{length-take-le}
use Rattle.octets.specs.Octets.{Octets}
use Rattle.octets.proofs.PartByPart.{Filled, put_next}
use Rattle.aka.specs.Layout.{joined}
use Rattle.aka.specs.Vlr.{most_held, place_size, item_of, places_of}
use Rattle.aka.proofs.Layouts.{joined_next}
use Rattle.aka.proofs.VlrPlaces.{length_placed, length_item}
use Rattle.vlr_places.specs.Views.{kind_of}
use Rattle.vlr_record.proofs.queue.with_batch.Goals as goal

pub loop-k-init : goal.loop-k-init
unfolding joined
loop-k-init c =
    let queue = c.args.queue in
    let held = c.args.held in
    let size : length queue ≡ place_size * most_held = omega (arith, c.well_formed) in
    let at : place_size * (held + 0) ≡ place_size * held = omega arith in
    let front : Octets = take (place_size * held) queue in
    record {
      size = size;
      filled = record {
        size = ap length (append-nil front) ∙ length-take-le (place_size * held) queue (omega (arith, size, c.requires.room)) ∙ sym at;
        is = sym (ap₂ (λ (x y : Octets). x ++ y) (append-nil front) (ap (λ (n : ℕ). drop n queue) at)
            ∙ take-append-drop (place_size * held) queue);
      };
    }

pub loop-k-preserved : goal.loop-k-preserved
loop-k-preserved c =
    let args = c.args in
    let k = c.loop-k.k in
    let kind = kind_of args.batch.kind in
    let batch = args.batch.octets.now in
    let item = c.placed.result in
    let was : length args.queue ≡ place_size * most_held = omega (arith, c.well_formed) in
    let size : length c.put.new.buffer ≡ place_size * most_held = c.put.auto.buffer ∙ c.loop-k.invariant.size in
    let further : place_size * (args.held + k) + place_size ≡ place_size * (args.held + (k + 1)) = omega arith in
    let one : length item ≡ place_size
    = ap length c.placed.ensures ∙ length_placed kind (item_of kind batch k)
    (length_item kind batch args.batch.count c.requires.size k (omega arith)) in
    let next = put_next item place_size c.loop-k.invariant.filled (rw one at c.put.ensures) (size ∙ sym was)
    (omega (arith, was, c.requires.room)) in
    let front : Octets = take (place_size * args.held) args.queue in
    let more : places_of kind batch k ++ item ≡ places_of kind batch (k + 1)
    = ap (λ (x : Octets). places_of kind batch k ++ x) c.placed.ensures ∙ sym (joined_next _ k) in
    let done = append_assoc front (places_of kind batch k) item ∙ ap (λ (x : Octets). front ++ x) more in
    record {
      size = size;
      filled = subst₂ (λ (d : Octets) (n : ℕ). Filled args.queue d n c.put.new.buffer) done further next;
    }
