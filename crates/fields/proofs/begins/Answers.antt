use Rattle.std.proofs.Common.{◌∙◌}
use Rattle.fields.proofs.FieldLaws.{begins_is}
use Rattle.fields.proofs.begins.Goals as goal

pub returns : goal.returns
returns c = c.starts_with.ensures.value ∙ begins_is c.args.word.now c.args.line.now
