-- `last_round` is the last round: its four columns side by side. Assumes nothing.
use Rattle.octets.specs.Octets.{digits, xor}
use Rattle.aes.specs.Cipher.{sub_bytes, shift_rows, round_key, add_round_key, last_round}
use Rattle.aes_words.proofs.Blocks.{joined}
use Rattle.aes.proofs.Cipher.last_round.Goals as goal

pub returns : goal.returns
unfolding digits xor sub_bytes shift_rows round_key add_round_key last_round
returns c = joined _ _ _ _ c.last_column.ensures c.last_column-2.ensures c.last_column-3.ensures c.last_column-4.ensures
