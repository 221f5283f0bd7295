-- `sqn` is `sqn_of`, a number of 48 bits and so within a word.
use Rattle.std.proofs.Common.{arith}
use Rattle.aka.proofs.Editions.{room}
use Rattle.editions.proofs.sqn.Goals as goal

pub overflow_mul-result : goal.overflow_mul-result
overflow_mul-result c =
    rw c.row-m.ensures.indices.number (omega (arith, room c.args.edition c.args.seq c.requires))

pub overflow_add-result : goal.overflow_add-result
overflow_add-result c =
    rw c.row-m.ensures.indices.number (omega (arith, room c.args.edition c.args.seq c.requires))
