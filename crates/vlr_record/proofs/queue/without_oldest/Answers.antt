-- `without_oldest` is the other places, and one of zeros.
use Rattle.std.proofs.Common.{◌-◌, ◌*◌, ◌≡◌, length, drop, arith, length-drop}
use Rattle.octets.proofs.Copies.{rest}
use Rattle.aka.specs.Vlr.{most_held, place_size}
use Rattle.vlr_record.proofs.queue.without_oldest.Goals as goal

pub returns : goal.returns
returns c =
    let queue = c.args.queue in
    let whole = rest queue place_size (place_size * most_held) (omega (arith, c.well_formed)) in
    let size : length (drop place_size queue) ≡ place_size * (most_held - 1) = omega (arith, length-drop place_size queue, c.well_formed) in
    let moved = rw whole at c.copy.ensures.octets in
    rw size at moved
