-- What a step leaves in a buffer with room. Assumes nothing.
use Prim.Native.Nat.{ℕ, ◌≤◌}
use mathlib.Core.Path.{◌≡◌, ap, ◌∙◌}
use mathlib.Core.List.{List}
use borrow.Author.Tests.{le-ltb}
use lib.ListN.{length, take, drop}
use lib.Seq.{take-append_seam}
use Rattle.octets.specs.Octets.{Octets}
use Rattle.console.specs.Turns.{Gives}
use Rattle.bench_writer.specs.Replies.{room, text_of, written}
use Rattle.bench_core.specs.Bench.{Bench, Stepped, step, stepped}
use Rattle.bench.specs.Program.{line_answer}

pub step_gives : (bench : Bench) (line text : Octets) {s : Stepped} → room ≤ length text → s ≡ stepped bench line text
    → Gives line_answer bench line (take s.size s.buffer) s.bench
unfolding line_answer stepped written
step_gives bench line text {s} h e =
    let answer = text_of (step bench line).reply in
    ap (λ (x : Stepped). record { text = take x.size x.buffer; after = x.bench }) e
    ∙ rw (le-ltb (length text) room h)
    (ap (λ (t : List ℕ). record { text = t; after = (step bench line).bench }) (take-append_seam answer (drop (length answer) text)))
