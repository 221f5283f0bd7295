-- Each turn goes on with the run.
use Rattle.std.proofs.Common.{length}
use Rattle.console.specs.Turns.{standing_of}
use Rattle.console.proofs.Loops.{Going}
use Rattle.console.proofs.answer_all.Given as goal

abbrev pub invariant-loop : goal.invariant-loop
invariant-loop g l =
    Going g.P.Program.answers (g.P.Program.state l.fn.program) (length l.fn.line) (length l.fn.out) l.counter
    (g.P.Program.state l.program) (standing_of l.piece l.line l.out l.p)
