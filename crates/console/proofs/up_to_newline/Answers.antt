use Rattle.std.proofs.Common.{rules}
use Rattle.console.proofs.LineLaws.{first_newline}
use Rattle.console.proofs.up_to_newline.Goals as goal

pub returns : goal.returns
returns c = first_newline c.args.bytes.now c.unwrap_or.result (search rules) (search rules) (search rules)
