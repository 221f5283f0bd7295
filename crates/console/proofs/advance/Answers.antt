-- `advance` is an exchange and, unless a write failed, the next part of the line.
use Rattle.std.proofs.Common.{ℕ, Bool, List, ◌≡◌, true, false, cond, sym, ap, ◌∙◌, length, take}
use Rattle.console.specs.Turns.{Standing, advanced, exchanged, standing_of, stopped, part_taken}
use Rattle.console.proofs.advance.Goals as goal

-- a write failed, and where none did
failed : (longest room : ℕ) (s : Standing) (came : List ℕ) {r : Standing} {b : Bool} → b ≡ true
    → r ≡ cond b (stopped s) (exchanged room s came) → r ≡ advanced longest room s b came
unfolding advanced
failed longest room s came e is = rw e (is ∙ rw e)

went : (longest room : ℕ) (s : Standing) (came : List ℕ) {met r : Standing} {b after : Bool} → b ≡ false → after ≡ b
    → met ≡ cond b (stopped s) (exchanged room s came) → r ≡ part_taken longest met → r ≡ advanced longest room s after came
unfolding advanced
went longest room s came e same is next = rw (same, e) (next ∙ ap (part_taken longest) (is ∙ rw e))

pub returns-then-met : goal.returns-then-met
returns-then-met g c =
    let s = standing_of c.args.piece.now c.args.line.now c.args.out.now c.args.p in
    failed (length c.args.line.now) (length c.args.out.now) s _ c.if-met.true (c.exchange-met.ensures c.args.line.now)

pub returns : goal.returns
unfolding part_taken
returns g c =
    let s = standing_of c.args.piece.now c.args.line.now c.args.out.now c.args.p in
    let longest = length c.args.line.now in
    let room = length c.args.out.now in
    let met = c.exchange-met in
    let is = c.take_part.ensures.standing c.args.out.now in
    went longest room s (take met.result.size met.new.piece) c.if-met.false
    (ap (λ (x : Standing). x.failed) is) (met.ensures c.args.line.now) is
    ∙ ap (λ (n : ℕ). advanced longest room s c.take_part.result.failed (take n met.new.piece)) (sym c.take_part.ensures.size)
