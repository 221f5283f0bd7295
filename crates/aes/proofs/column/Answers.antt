-- `column` is a column of SubBytes, ShiftRows, MixColumns and AddRoundKey. Assumes nothing.
use Rattle.std.proofs.Common.{ℕ, ◌%◌, ap, ◌∙◌}
use Rattle.octets.specs.Octets.{digits}
use Rattle.aes_tables.specs.Sbox.{sbox}
use Rattle.aes_tables.specs.RoundTable.{contribution}
use Rattle.aes_words.proofs.Turns.{shifted2, shifted3}
use Rattle.aes.proofs.Columns.{mixed}
use Rattle.aes.proofs.column.Goals as goal

pub returns : goal.returns
unfolding digits
returns c =
    mixed _ _ _ _ _ _ _ _ _ _ _ _
    (c.entry.ensures ∙ ap (λ (y : ℕ). contribution (sbox (y % 256))) (shifted3 c.args.a))
    (c.entry-2.ensures ∙ ap (λ (y : ℕ). contribution (sbox (y % 256))) (shifted2 c.args.b))
    c.entry-3.ensures c.entry-4.ensures
    c.left.ensures c.left-2.ensures c.left-3.ensures
