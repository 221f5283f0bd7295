use Rattle.std.proofs.Common.{◌∙◌, rules}
use Rattle.octets.proofs.Bytes.{read_4}
use Rattle.aes_words.proofs.Blocks.{joined, quarters}
use Rattle.aes_words.proofs.BlockFromArrayU816.from.Goals as goal

pub returns : goal.returns
returns c =
    joined _ _ _ _
    (read_4 _ (search rules) _ (search rules) c.from_be_bytes.ensures ∙ c.piece.ensures)
    (read_4 _ (search rules) _ (search rules) c.from_be_bytes-2.ensures ∙ c.piece-2.ensures)
    (read_4 _ (search rules) _ (search rules) c.from_be_bytes-3.ensures ∙ c.piece-3.ensures)
    (read_4 _ (search rules) _ (search rules) c.from_be_bytes-4.ensures ∙ c.piece-4.ensures)
    ∙ quarters c.args.value (search rules)
