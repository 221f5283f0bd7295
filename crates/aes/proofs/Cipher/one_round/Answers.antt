-- `one_round` is a round: its four columns side by side. Assumes nothing.
use Rattle.octets.specs.Octets.{digits, xor}
use Rattle.aes.specs.Cipher.{sub_bytes, shift_rows, mix_column, mix_columns, round_key, add_round_key, one_round}
use Rattle.aes_words.proofs.Blocks.{joined}
use Rattle.aes.proofs.Cipher.one_round.Goals as goal

pub returns : goal.returns
unfolding digits xor sub_bytes shift_rows mix_column mix_columns round_key add_round_key one_round
returns c = joined _ _ _ _ c.column.ensures c.column-2.ensures c.column-3.ensures c.column-4.ensures
