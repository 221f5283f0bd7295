-- `answer` puts the text of the line's answer, where the line is whole.
use Rattle.std.proofs.Common.{◌≤◌, ◌/◌, ap, length, length-take, arith}
use borrow.Author.Tests.{not-true, not-false}
use Rattle.console.specs.Turns.{standing_of}
use Rattle.console.proofs.Loops.{answer_is, not_answered, was_answered}
use Rattle.console.proofs.answer.Goals as goal

pub returns-then-not-p : goal.returns-then-not-p
returns-then-not-p g c piece = not_answered g.P.Program.answers _ _ _ _ (not-true _ c.if-not-p.true)

pub returns : goal.returns
returns g c piece =
    let p = c.args.p in
    let line = c.args.line.now in
    let out = c.args.out.now in
    let text = c.first_bytes-2.result.now in
    let given = c.answer-size.ensures in
    let size = simp length-take at (ap length c.first_bytes-2.ensures) in
    let short : length text ≤ length out / 2 = omega arith in
    was_answered g.P.Program.answers (length out) p.ready (g.P.Program.state c.args.program.now) (g.P.Program.state c.answer-size.new.self)
    (standing_of piece line out p) text (not-false _ c.if-not-p.false) (rw (c.first_bytes-2.ensures, ← c.first_bytes.ensures) given) short
    (answer_is piece line out text p c.put_answer.ensures.bytes c.put_answer.ensures.progress)
