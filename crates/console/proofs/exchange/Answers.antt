-- `exchange` writes out what is due, and reads where the piece is used up.
use Rattle.std.proofs.Common.{ℕ, [], ◌≡◌, false, refl, ap, ◌∙◌, length, take}
use lib.Dec.{eqb}
use Rattle.console.specs.Turns.{reads, standing_of, stopped}
use Rattle.console.proofs.TurnLaws.{due_waits, is_empty_lem, not_read, reads_on, some_left, has_ended, still_waits, was_read}
use Rattle.console.proofs.exchange.Goals.{then-left-ne0-via-then-left-ne0, then-left-ne0-via-else-left-ne0+then-p}
use Rattle.console.proofs.exchange.Goals as goal

pub returns-in_default : goal.returns-in_default
unfolding stopped
returns-in_default g c line = refl

pub overflow_sub-used : goal.overflow_sub-used
overflow_sub-used g c =
    let out = c.args.out.now in
    due_waits (length out) (standing_of c.args.piece.now [] out c.args.p) c.first_bytes-waiting.ensures (c.in-Ok.ensures [])

pub returns-then-left-ne0 : goal.returns-then-left-ne0
returns-then-left-ne0 g c line =
    let out = c.args.out.now in
    let s = standing_of c.args.piece.now line out c.args.p in
    let kept : reads s ≡ false = elim c.then-left-ne0.branch [
      | then-left-ne0-via-then-left-ne0 w ↦ some_left s c.untaken-left.ensures w.if-left-ne0.true
      | then-left-ne0-via-else-left-ne0+then-p w ↦ has_ended s w.if-p.true
    ] in
    not_read (length out) s _ kept
    (still_waits (length out) s out c.args.p.used refl c.first_bytes-waiting.ensures (c.in-Ok.ensures line))

pub returns : goal.returns
returns g c line =
    let out = c.args.out.now in
    let s = standing_of c.args.piece.now line out c.args.p in
    let came = take c.fetch-size.result c.fetch-size.new.piece in
    was_read (length out) s came (reads_on s c.untaken-left.ensures c.if-left-ne0.false c.if-p.false)
    (still_waits (length out) s out c.args.p.used refl c.first_bytes-waiting.ensures (c.in-Ok.ensures line))
    (ap (λ (n : ℕ). eqb n 0) c.fetch-size.ensures.1 ∙ is_empty_lem came)
