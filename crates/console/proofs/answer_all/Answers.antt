use Rattle.std.proofs.Common.{refl, sym, ◌∙◌, length, take, arith}
use Rattle.console.specs.Turns.{standing_of}
use Rattle.console.proofs.Loops.{ended_is, ends, goes_on, going_begun, runs_out}
use Rattle.console.proofs.answer_all.Goals as goal

pub loop-init : goal.loop-init
loop-init g c =
    let args = c.args in
    going_begun g.P.Program.answers _ (length args.line.now) (length args.out.now) args.piece.now args.line.now args.out.now refl
    c.begin-p.ensures

pub returns-then-is_ended : goal.returns-then-is_ended
returns-then-is_ended g c =
    let args = c.args in
    let l = c.loop in
    let t = c.advance-p in
    ends g.P.Program.answers (g.P.Program.state args.program.now) (length args.line.now) (length args.out.now)
    {s₁ = standing_of t.new.piece t.new.line l.out t.result} l.invariant t.result.failed
    (take t.result.size t.new.piece) t.ensures (omega arith) (omega arith)
    (ended_is t.new.piece t.new.line l.out t.result (sym c.is_ended.ensures ∙ c.if-is_ended.true))

pub loop-preserved : goal.loop-preserved
loop-preserved g c =
    let args = c.args in
    let l = c.loop in
    let t = c.advance-p in
    goes_on g.P.Program.answers (g.P.Program.state args.program.now) (length args.line.now) (length args.out.now)
    {s₁ = standing_of t.new.piece t.new.line l.out t.result} l.invariant t.result.failed
    (take t.result.size t.new.piece) t.ensures (omega arith) (omega arith)
    {s₂ = standing_of t.new.piece t.new.line c.answer-p.new.out c.answer-p.result}
    (c.answer-p.ensures t.new.piece)

pub returns : goal.returns
returns g c = runs_out g.P.Program.answers _ _ _ c.loop.invariant (omega arith)
