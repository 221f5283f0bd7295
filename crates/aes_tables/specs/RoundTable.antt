-- The table by which the code does SubBytes and MixColumns in one step: not of the standard, and defined from it.
-- Assumes nothing: these are definitions.
use Rattle.std.specs.Prelude.{List, [], ◌∷◌, ◌≡◌, ℕ, ◌<◌, get_or}
use Rattle.octets.specs.Octets.{Octets, encode}
use Rattle.gf256.specs.Field.{times}
use Rattle.aes_tables.specs.Sbox.{sbox}

-- what s in row 0 contributes to its column in MixColumns: the first column of the matrix, times s
unfoldable pub contribution : ℕ → Octets
contribution s = times 2 s ∷ s ∷ s ∷ times 3 s ∷ []

-- a table of words whose four octets are what the S-box's value contributes, entry by entry
unfoldable pub IsRoundTable : List ℕ → Type 0
IsRoundTable table = (x : ℕ) → x < 256 → encode 4 (get_or table x 0) ≡ contribution (sbox x)
