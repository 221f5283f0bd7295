-- `due_part` is what is due, all or none of what waits.
use Rattle.std.proofs.Common.{length}
use Rattle.console.specs.Turns.{standing_of}
use Rattle.console.proofs.TurnLaws.{due_is}
use Rattle.console.proofs.due_part.Goals as goal

pub returns : goal.returns
returns c line =
    let out = c.args.out.now in
    due_is (length out) (standing_of c.args.piece.now line out c.args.p) c.untaken-left.ensures
    c.first_bytes-waiting.ensures c.count_due.ensures c.first_bytes.ensures
