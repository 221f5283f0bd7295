-- The first i RANDs are there, and their octets are at the front.
use Rattle.std.proofs.Common.{◌≡◌, ◌*◌, ◌++◌, true, length, drop}
use Rattle.octets.specs.Octets.{zeros}
use Rattle.aka.specs.Layout.{rand_size}
use Rattle.bench_reader.specs.Commands.{rands_size, rand_fields, rand_octets}
use Rattle.bench_reader.proofs.batch_form.read_rands.Given as goal

abbrev pub invariant-loop-i : goal.invariant-loop-i
invariant-loop-i l = record {
  size : length l.octets ≡ rands_size;
  read : length (rand_octets l.i l.from l.line) ≡ rand_size * l.i;
  there : rand_fields l.i l.from l.line ≡ true;
  octets : l.octets ≡ rand_octets l.i l.from l.line ++ drop (rand_size * l.i) (zeros rands_size);
}
