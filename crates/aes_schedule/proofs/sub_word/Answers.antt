-- `sub_word` is SubWord. Assumes nothing.
use Rattle.std.proofs.Common.{ℕ, ◌%◌, ◌∷◌, refl, ap, ap₂, ◌∙◌, arith}
use Rattle.octets.specs.Octets.{digits}
use Rattle.aes_tables.specs.Sbox.{sbox, IsSbox}
use Rattle.aes_words.proofs.Turns.{shifted2, shifted3}
use Rattle.aes_schedule.specs.KeyExpansion.{sub_word}
use Rattle.aes_schedule.proofs.Expansion.{whole}
use Rattle.aes_schedule.proofs.sub_word.Goals as goal

pub returns : goal.returns
unfolding digits IsSbox sub_word
returns c =
    let is_sbox = c.requires in
    let x = c.args.x in
    whole c.word.result _ (omega arith)
    (rw c.to_be_bytes.ensures at c.word.ensures
    ∙ ap₂ ◌∷◌ (is_sbox _ (omega arith) ∙ ap (λ (y : ℕ). sbox (y % 256)) (shifted3 x))
    (ap₂ ◌∷◌ (is_sbox _ (omega arith) ∙ ap (λ (y : ℕ). sbox (y % 256)) (shifted2 x))
    (ap₂ ◌∷◌ (is_sbox _ (omega arith)) (ap₂ ◌∷◌ (is_sbox _ (omega arith)) refl))))
