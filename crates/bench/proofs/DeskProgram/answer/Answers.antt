use Rattle.bench_core.specs.Views.{bench_of}
use Rattle.bench.proofs.Texts.{step_gives}
use Rattle.bench.proofs.DeskProgram.answer.Goals as goal

pub returns : goal.returns
returns c = step_gives (bench_of c.args.self.now.bench) c.args.line.now c.args.text.now c.requires c.step-stepped.ensures
