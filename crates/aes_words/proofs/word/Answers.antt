use Rattle.std.proofs.Common.{rules, refl}
use Rattle.octets.proofs.Bytes.{read_4}
use Rattle.aes_words.proofs.word.Goals as goal

pub returns : goal.returns
returns c = read_4 _ (search rules) _ refl c.from_be_bytes.ensures
