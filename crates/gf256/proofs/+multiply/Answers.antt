-- The product by halving, from the laws of the field. Assumes nothing.
use Rattle.std.proofs.Common.{sym, arith}
use Rattle.gf256.proofs.Laws.{field_laws}
use Rattle.gf256.proofs.+multiply.Goals as goal

pub returns-then-a-eq0 : goal.returns-then-a-eq0
returns-then-a-eq0 t c = rw c.if-a-eq0.true (sym (field_laws.zero _))

pub returns-else-a-eq0 : goal.returns-else-a-eq0
returns-else-a-eq0 t c =
    rw (c.multiply.ensures, c.double.ensures) (sym (field_laws.halved c.args.a c.args.b (omega arith)))
