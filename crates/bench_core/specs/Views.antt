-- The code's values as the definitions have them. Assumes nothing: these are definitions.
use Rattle.octets.specs.Octets.{Octets}
use Rattle.bench_writer.specs.Views.{reply_of}
use Rattle.bench_desk.specs.Views.{desk_of}
use Rattle.bench_core.specs.Bench as spec
use Rattle.bench_core.specs.declared.Bench as declared_bench
use Rattle.bench_writer.specs.declared.Reply.{Reply}
use Rattle.bench_core.specs.declared.Stepped as declared_stepped

abbrev pub bench_of : declared_bench.Bench → spec.Bench
bench_of b = record { keyed = b.keyed; failed = b.failed; desk = desk_of b.desk }

-- the bench after a line, and what is answered
abbrev pub bench_answer_of : declared_bench.Bench × Reply → spec.BenchAnswer
bench_answer_of a = record { bench = bench_of a.0; reply = reply_of a.1 }

abbrev pub stepped_of : declared_stepped.Stepped → (buffer : Octets) → spec.Stepped
stepped_of s buffer = record { bench = bench_of s.bench; size = s.size; buffer = buffer }
