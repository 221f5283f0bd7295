-- What a line does. Assumes nothing.
use Prim.Native.Nat.{ℕ, ◌≤◌}
use mathlib.Core.Path.{◌≡◌, sym, ap, ◌∙◌}
use borrow.Author.Tests.{le-ltb}
use lib.ListN.{length}
use Rattle.octets.specs.Octets.{Octets}
use Rattle.bench_reader.specs.Commands as lines
use Rattle.bench_writer.specs.Replies.{Written, room, written}
use Rattle.bench_core.specs.Bench.{Bench, BenchAnswer, answer_to, step}
use Rattle.bench_core.specs.Bench.{Stepped, stepped}

module _ (bench : Bench) (line buffer : Octets) where
  pub step_is : {c : lines.Command} {a : BenchAnswer} → c ≡ lines.read line → a ≡ answer_to bench c c.word → a ≡ step bench line
  unfolding step
  step_is e f = f ∙ ap (λ (x : lines.Command). answer_to bench x x.word) e

  pub stepped_is : {a : BenchAnswer} {w : Written} → room ≤ length buffer → a ≡ step bench line → w ≡ written a.reply buffer
      → record { bench = a.bench; size = w.count; buffer = w.buffer } ≡ stepped bench line buffer
  unfolding stepped
  stepped_is {a} {w} h e f =
      sym (rw (le-ltb _ room h) (sym (ap (made a) f ∙ ap (λ (x : BenchAnswer). made x (written x.reply buffer)) e)))
    where
      made : BenchAnswer → Written → Stepped
      made x y = record { bench = x.bench; size = y.count; buffer = y.buffer }
