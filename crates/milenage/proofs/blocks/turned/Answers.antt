-- `turned` turns left by whole words.
use Rattle.std.proofs.Common.{ℕ, zero, suc, ◌+◌, ◌*◌, ◌%◌, ◌≤◌, ◌≡◌, [], ◌∷◌, refl, slice_index_or, arith}
use Rattle.octets.specs.Octets.{digits, turn_left}
use Rattle.aes_words.specs.Words.{columns}
use Rattle.milenage.proofs.blocks.turned.Goals as goal

-- the word at place i of four
abbrev at : ℕ → ℕ → ℕ → ℕ → ℕ → ℕ
at a b c d i = slice_index_or {A = ℕ} (a ∷ b ∷ c ∷ d ∷ []) i 0

turns : (a b c d n : ℕ) → n ≤ 3
    → columns (at a b c d n) (at a b c d ((n + 1) % 4)) (at a b c d ((n + 2) % 4)) (at a b c d ((n + 3) % 4))
    ≡ turn_left (4 * n) (columns a b c d)
unfolding digits turn_left
turns a b c d zero h = refl
turns a b c d (suc zero) h = refl
turns a b c d (suc (suc zero)) h = refl
turns a b c d (suc (suc (suc zero))) h = refl
turns a b c d (suc (suc (suc (suc n)))) h = absurd (omega arith)

pub returns : goal.returns
returns c = turns _ _ _ _ _ c.requires
