-- `round_table` hands out a table that keeps the rule: the test is computed over it. Assumes nothing.
use Rattle.std.proofs.Common.{refl}
use lib.Dec.{lit≤}
use Rattle.octets.specs.Octets.{spelt, digits, equal}
use Rattle.gf256.specs.Field.{xtime, halving, times}
use Rattle.aes_tables.specs.Sbox.{squares, inverse, affine_bit, affine, sbox}
use Rattle.aes_tables.specs.RoundTable.{contribution}
use Rattle.aes_tables.proofs.Rules.{is_contribution, round_rule}
use Rattle.aes_tables.proofs.round_table.Goals as goal

pub returns : goal.returns
unfolding is_contribution spelt digits equal xtime halving times squares inverse affine_bit affine sbox contribution
returns c = round_rule _ (lit≤ tt) refl
