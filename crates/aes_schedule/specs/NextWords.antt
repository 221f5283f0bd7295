-- Four words of the key schedule made at once, as the code makes them. Assumes nothing: these are definitions.
use Rattle.std.specs.Prelude.{ℕ, ◌-◌, ◌*◌, List, ◌≡◌, get_or}
use Rattle.std.specs.Int.Bits.{bit_xor}
use Rattle.aes_words.specs.declared.Block.{Block}
use Rattle.aes_schedule.specs.KeyExpansion.{next_word}

-- the first is w[4 round], which takes Rcon; each of the others is the word four places back added to the one before
pub record NextWords (w : List ℕ) (round : ℕ) (next : Block) : Type 0 where
  pub a : next.a ≡ next_word w (4 * round)
  pub b : next.b ≡ bit_xor (get_or w (4 * round - 3) 0) next.a
  pub c : next.c ≡ bit_xor (get_or w (4 * round - 2) 0) next.b
  pub d : next.d ≡ bit_xor (get_or w (4 * round - 1) 0) next.c
