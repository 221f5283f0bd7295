-- The bench program: what it writes out for the lines of its input. Document 01, 'The bench program'. Assumes nothing: these are
-- definitions.
use Rattle.std.specs.Prelude.{ℕ, ◌<◌}
use Rattle.octets.specs.Octets.{Octets}
use Rattle.console.specs.Turns.{Answer, AnswersAll}
use Rattle.bench_reader.specs.Commands.{longest}
use Rattle.bench_writer.specs.Replies.{text_of}
use Rattle.bench_core.specs.Bench.{Bench, new_bench, step}

-- one line of text for each line, and the bench for the next one
unfoldable pub line_answer : Bench → (line : Octets) → Answer Bench
line_answer bench line = record { text = text_of (step bench line).reply; after = (step bench line).bench }

-- what is written out is the answers to the lines of the input, in order, from a bench that took no key yet. The line buffer has more
-- bytes than the longest line that is not a bad line
abbrev pub Serves : Type 0
Serves = (size room : ℕ) → longest < size → AnswersAll line_answer new_bench size room
