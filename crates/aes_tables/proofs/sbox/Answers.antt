-- `sbox` hands out a table that keeps the rule: the test is computed over it. Assumes nothing.
use Rattle.std.proofs.Common.{refl}
use lib.Dec.{lit≤}
use Rattle.octets.specs.Octets.{spelt}
use Rattle.gf256.specs.Field.{xtime, halving, times}
use Rattle.aes_tables.specs.Sbox.{squares, inverse, affine_bit, affine, sbox}
use Rattle.aes_tables.proofs.Rules.{is_entry, sbox_rule}
use Rattle.aes_tables.proofs.sbox.Goals as goal

pub returns : goal.returns
unfolding is_entry spelt xtime halving times squares inverse affine_bit affine sbox
returns c = sbox_rule _ (lit≤ tt) refl
