-- `row` is the table's row.
use Rattle.std.proofs.Common.{refl, arith}
use Rattle.aka.proofs.Editions.{row_2, row_other}
use Rattle.editions.proofs.row.Goals as goal

pub returns-in-2 : goal.returns-in-2
returns-in-2 c =
    rw (c.in-2.is, row_2)
    (record {
      indices = record { number = refl; some = omega arith; inside = omega arith };
      bits = refl;
      limit = refl;
      each = refl;
      octets = refl;
      few = omega arith;
    })

pub returns-in_default : goal.returns-in_default
returns-in_default c =
    rw (row_other c.args.edition (λ e. omega arith))
    (record {
      indices = record { number = refl; some = omega arith; inside = omega arith };
      bits = refl;
      limit = refl;
      each = refl;
      octets = refl;
      few = omega arith;
    })
