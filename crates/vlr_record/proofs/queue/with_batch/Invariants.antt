-- So far k items of the batch stand behind the places in use.
use Rattle.std.proofs.Common.{◌+◌, ◌*◌, ◌≡◌, ◌++◌, length, take}
use Rattle.octets.proofs.PartByPart.{Filled}
use Rattle.aka.specs.Vlr.{most_held, place_size, places_of}
use Rattle.vlr_places.specs.Views.{kind_of}
use Rattle.vlr_record.proofs.queue.with_batch.Given as goal

abbrev pub invariant-loop-k : goal.invariant-loop-k
invariant-loop-k l = record {
  size : length l.next ≡ place_size * most_held;
  filled : Filled l.fn.queue (take (place_size * l.held) l.fn.queue ++ places_of (kind_of l.batch.kind) l.batch.octets.now l.k)
      (place_size * (l.held + l.k)) l.next;
}
