-- `write_answer` writes the line of an answer.
use Rattle.std.proofs.Common.{sym, arith}
use Rattle.console.proofs.BufferLaws.{appended_fits}
use Rattle.function_vectors.proofs.Texts.{not_formed, not_known, outputs}
use Rattle.function_vectors.proofs.write_answer.Goals as goal

pub returns-in_default : goal.returns-in_default
returns-in_default c =
    not_formed c.args.line.now c.in_default.ensures (appended_fits c.args.text.now 0 _ c.append.ensures (omega arith))

pub returns-then-not-is_known : goal.returns-then-not-is_known
returns-then-not-is_known c =
    let on = c.in-Some.ensures in
    not_known c.args.line.now on.0 on.1 (sym c.if-not-is_known.ensures)
    (appended_fits c.args.text.now 0 _ c.append-then-not-is_known.ensures (omega arith))

pub returns : goal.returns
returns c =
    let on = c.in-Some.ensures in
    outputs c.args.line.now on.0 on.1 c.in-Some.challenge c.seven.result on.2 (sym c.if-not-is_known.ensures) c.seven.ensures
    c.put_outputs.ensures
