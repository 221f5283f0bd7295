use Rattle.aes_words.proofs.Blocks.{xor_columns}
use Rattle.aes_words.proofs.BlockBitXor.bitxor.Goals as goal

pub returns : goal.returns
returns c = xor_columns _ _ _ _ _ _ _ _
