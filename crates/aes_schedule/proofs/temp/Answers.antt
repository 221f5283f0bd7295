-- `temp` is what a word that takes Rcon adds. Assumes nothing.
use Rattle.std.proofs.Common.{ap, ap₂, ◌∙◌, arith}
use Rattle.std.specs.Int.Bits.{bit_xor}
use Rattle.aes_schedule.specs.KeyExpansion.{rot_word, sub_word}
use Rattle.aes_schedule.proofs.Expansion.{whole}
use Rattle.aes_schedule.proofs.temp.Goals as goal

pub returns : goal.returns
unfolding rot_word
returns c =
    ap₂ bit_xor (c.sub_word.ensures ∙ ap sub_word (whole c.left.result _ (omega arith) c.left.ensures))
    (whole c.word.result _ (omega arith) c.word.ensures)
