-- What the program writes out is the answers to the lines of its input. Assumes nothing.
use mathlib.Core.List.{List}
use mathlib.Core.Path.{◌≡◌, ap}
use Prim.Native.Nat.{ℕ, ◌<◌}
use native.Mathlib.Omega.{arith}
use borrow.Author.Tests.{ne_eqb}
use lib.ListN.{length}
use Rattle.octets.specs.Ascii.{ascii}
use Rattle.console.proofs.LineLaws.{cut_long}
use Rattle.console.proofs.Runs.{answers_all}
use Rattle.function_vectors.specs.Answer.{Serves, answer_text, line_answer, line_size, well_formed}

-- a longer line is not well formed
longer : (line : List ℕ) → line_size < length line → answer_text line ≡ ascii "bad line\n"
unfolding answer_text well_formed
longer line h = rw (ne_eqb (length line) line_size (λ e. omega arith))

pub serves : Serves
unfolding line_answer
serves size room h =
    answers_all line_answer size
    (λ state line. ap (λ (t : List ℕ). record { text = t; after = state })
    (cut_long answer_text (ascii "bad line\n") line_size size h longer line))
    tt room (omega arith)
