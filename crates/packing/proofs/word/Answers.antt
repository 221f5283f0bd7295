-- Eight octets are all of the word.
use Rattle.std.proofs.Common.{ap, ◌∙◌, rules}
use Rattle.octets.specs.Octets.{decode}
use Rattle.octets.proofs.Bytes.{read_8}
use Rattle.packing.proofs.word.Goals as goal

pub returns : goal.returns
returns c = read_8 c.array.result (search rules) _ (search rules) c.from_be_bytes.ensures (search rules) ∙ ap decode c.array.ensures
