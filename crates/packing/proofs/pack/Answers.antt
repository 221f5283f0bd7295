use Rattle.std.proofs.Common.{arith}
use Rattle.packing.proofs.Writing.{packed_none, held_fits, packed_next}
use Rattle.packing.proofs.pack.Goals as goal

pub loop-number-init : goal.loop-number-init
loop-number-init c = packed_none c.requires.clear

pub overflow_add-held : goal.overflow_add-held
overflow_add-held c = record { fits = held_fits c.loop-number.invariant c.requires.below (omega arith) c.loop-number-test.true }

pub loop-number-preserved : goal.loop-number-preserved
loop-number-preserved c =
    packed_next c.loop-number.invariant c.requires.below (omega arith) c.loop-number-test.true (omega arith) c.put_word.ensures
