-- `take_part` takes the rest of the line, as far as the piece has it.
use Rattle.std.proofs.Common.{ℕ, Bool, List, ◌≡◌, ◌≤◌, ◌+◌, ◌++◌, ◌&&◌, ◌||◌, min, sym, ap, ◌∙◌, length, take, drop}
use Rattle.std.proofs.Common.{length-take, length-drop, arith}
use mathlib.Core.Path.{ap₂}
use borrow.Author.Tests.{lt-ltb, le-ltb}
use lib.Dec.{ltb}
use lib.Seq.{length-take-le}
use Rattle.console.specs.Buffers.{appended, buffer_of}
use Rattle.console.specs.Lines.{has_newline, past_newline, up_to_newline}
use Rattle.console.specs.Turns.{line_ends, longer, part_taken, standing_of}
use Rattle.console.specs.declared.Progress.{Progress}
use Rattle.console.proofs.BufferLaws.{filled_front, filled_used}
use Rattle.console.proofs.LineLaws.{followed, front, front_le}
use Rattle.console.proofs.TurnLaws.{has_some, next_place, was_taken}
use Rattle.console.proofs.take_part.Goals as goal

-- as the code has the rest of the piece, where it begins, and how many of its bytes are taken
module _ (piece : List ℕ) (size at : ℕ) {last rest : List ℕ} {from n : ℕ} (f : from ≡ min at (length last)) (l : last ≡ take size piece)
    (e : n ≡ length (up_to_newline rest)) (r : rest ≡ drop at (take size piece)) where
  begins : from ≡ min at (length (take size piece))
  begins = f ∙ ap (λ (x : List ℕ). min at (length x)) l

  count : n ≡ length (up_to_newline (drop at (take size piece)))
  count = e ∙ ap (λ (x : List ℕ). length (up_to_newline x)) r

  -- what is taken lies within the piece
  inside : from + n ≤ length piece
  inside =
      let came = take size piece in
      omega (arith, begins, count, front_le (drop at came), length-drop at came, length-take size piece)

  next : drop (from + n + 1) (take size piece) ≡ past_newline (drop at (take size piece))
  next = next_place (take size piece) at begins count

-- `n` bytes of the rest are the part, of which the line has `held` bytes then
module _ (rest buffer : List ℕ) (used : ℕ) {n held : ℕ} {now left : List ℕ} (e : n ≡ length (up_to_newline left)) (r : left ≡ rest)
    (kept : buffer_of held now ≡ appended buffer used (take n left)) where
  held_line : take held now ≡ longer (length buffer) (take used buffer) (up_to_newline rest)
  unfolding longer
  held_line =
      let part = ap (λ (k : ℕ). take k left) e ∙ front left ∙ ap up_to_newline r in
      filled_front _ buffer kept ∙ ap (λ (l : List ℕ). take (length buffer) (take used buffer ++ l)) part

  -- the test of the code is whether a newline was met, or the input ended
  ends : (over : Bool) → (ltb n (length left) || over && ltb 0 held) ≡ line_ends rest over (take held now)
  unfolding line_ends
  ends over =
      let met = ap (λ (k : ℕ). ltb k (length left)) e ∙ sym (followed left) ∙ ap has_newline r in
      let size : held ≡ length (take held now) = filled_used _ buffer kept ∙ sym (ap length (filled_front _ buffer kept)) in
      ap₂ (λ (a b : Bool). a || over && b) met (ap (ltb 0) size ∙ has_some (take held now))

pub slice_bounds-append-end : goal.slice_bounds-append-end
slice_bounds-append-end c = sym (length-take-le _ _ (omega (arith, c.up_to_newline-n.ensures, front_le c.untaken-rest.result.now)))

pub overflow_add-result : goal.overflow_add-result
overflow_add-result c =
    let p = c.args.p in
    let n = c.up_to_newline-n.ensures in
    let within = inside c.args.piece.now p.size p.at c.min.ensures c.first_bytes-last.ensures n c.untaken-rest.ensures in
    omega arith

pub overflow_add-result-2 : goal.overflow_add-result-2
overflow_add-result-2 c =
    let p = c.args.p in
    let n = c.up_to_newline-n.ensures in
    let within = inside c.args.piece.now p.size p.at c.min.ensures c.first_bytes-last.ensures n c.untaken-rest.ensures in
    omega arith

-- the standing after it, whatever the code's test of the end of the line says
taken : (piece line out : List ℕ) (p : Progress) {last rest now : List ℕ} {from n held : ℕ} {ready : Bool}
    → from ≡ min p.at (length last) → last ≡ take p.size piece → n ≡ length (up_to_newline rest) → rest ≡ drop p.at (take p.size piece)
    → buffer_of held now ≡ appended line p.held (take n rest)
    → ready ≡ (ltb n (length rest) || p.over && ltb 0 held)
    → standing_of piece now out
    (record { at = from + n + 1; size = p.size; held = held; used = p.used; ready = ready; over = p.over; failed = p.failed })
    ≡ part_taken (length line) (standing_of piece line out p)
taken piece line out p f l e r kept whole =
    let left = drop p.at (take p.size piece) in
    was_taken (length line) (standing_of piece line out p) (next piece p.size p.at f l e r) (held_line left line p.held e r kept)
    (whole ∙ ends left line p.held e r kept p.over)

pub returns-then-n-rest-clause-standing : goal.returns-then-n-rest-clause-standing
returns-then-n-rest-clause-standing c out =
    taken c.args.piece.now c.args.line.now out c.args.p c.min.ensures c.first_bytes-last.ensures c.up_to_newline-n.ensures
    c.untaken-rest.ensures c.append-held.ensures (rw (lt-ltb _ _ c.if-n-rest.true))

pub returns-then-p-clause-standing : goal.returns-then-p-clause-standing
returns-then-p-clause-standing c out =
    taken c.args.piece.now c.args.line.now out c.args.p c.min.ensures c.first_bytes-last.ensures c.up_to_newline-n.ensures
    c.untaken-rest.ensures c.append-held.ensures (rw (le-ltb _ _ c.if-n-rest.false, c.if-p.true))

pub returns-else-p-clause-standing : goal.returns-else-p-clause-standing
returns-else-p-clause-standing c out =
    taken c.args.piece.now c.args.line.now out c.args.p c.min.ensures c.first_bytes-last.ensures c.up_to_newline-n.ensures
    c.untaken-rest.ensures c.append-held.ensures (rw (le-ltb _ _ c.if-n-rest.false, c.if-p.false))
