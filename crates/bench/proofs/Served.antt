-- What the bench program writes out is the answers to the lines of its input. Assumes nothing.
use mathlib.Core.List.{List}
use mathlib.Core.Path.{◌≡◌, ap}
use Prim.Native.Nat.{ℕ, ◌<◌}
use native.Mathlib.Omega.{arith}
use borrow.Author.Tests.{lt-ltb}
use lib.ListN.{length}
use Rattle.console.specs.Turns.{Answer}
use Rattle.console.proofs.LineLaws.{cut_long}
use Rattle.console.proofs.Runs.{answers_all}
use Rattle.bench_reader.specs.Commands.{Command, alone, bad_line, longest, read}
use Rattle.bench_writer.specs.Replies.{text_of}
use Rattle.bench_core.specs.Bench.{Bench, answer_to, new_bench, step}
use Rattle.bench.specs.Program.{Serves, line_answer}

-- a longer line is a bad line
longer : (line : List ℕ) → longest < length line → read line ≡ alone bad_line
unfolding read
longer line h = rw (lt-ltb longest (length line) h)

-- of a line the bench sees what it reads
seen : Bench → Command → Answer Bench
seen bench c = record { text = text_of (answer_to bench c c.word).reply; after = (answer_to bench c c.word).bench }

pub serves : Serves
unfolding line_answer step seen
serves size room h =
    answers_all line_answer size (λ bench line. ap (seen bench) (cut_long read (alone bad_line) longest size h longer line)) new_bench room
    (omega arith)
