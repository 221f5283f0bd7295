use Rattle.std.proofs.Common.{◌∙◌}
use Rattle.octets.proofs.Bytes.{encoded}
use Rattle.aes_words.proofs.Blocks.{flattened}
use Rattle.aes_words.proofs.ArrayU816FromBlock.from.Goals as goal

pub returns : goal.returns
returns c =
    c.array.ensures ∙ c.as_flattened.ensures.value
    ∙ flattened _ _ _ _
    (c.to_be_bytes.ensures ∙ encoded 4 _) (c.to_be_bytes-2.ensures ∙ encoded 4 _)
    (c.to_be_bytes-3.ensures ∙ encoded 4 _) (c.to_be_bytes-4.ensures ∙ encoded 4 _)
