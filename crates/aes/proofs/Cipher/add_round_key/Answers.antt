-- `add_round_key` is AddRoundKey with the first round key. Assumes nothing.
use Rattle.aes.specs.Cipher.{round_key, add_round_key}
use Rattle.aes_words.proofs.Blocks.{xor_columns}
use Rattle.aes.proofs.Cipher.add_round_key.Goals as goal

pub returns : goal.returns
unfolding round_key add_round_key
returns c = xor_columns _ _ _ _ _ _ _ _
