-- The digits put are the fewest that hold the number.
use Rattle.std.proofs.Common.{ℕ, List, ◌++◌, ap, ◌∙◌, take, arith}
use Rattle.bench_writer.proofs.DecimalLaws.{fewest, few_digits}
use Rattle.bench_writer.proofs.text.Text.number.Goals as goal

pub returns-clause-text : goal.returns-clause-text
returns-clause-text c =
    let d = c.decimal-k in
    c.put.ensures.text
    ∙ ap (λ (t : List ℕ). take c.args.self.used c.args.self.bytes ++ t)
    (d.ensures.digits ∙ fewest d.result c.args.n d.ensures.len (few_digits d.result c.args.n d.ensures.len (omega arith)))
