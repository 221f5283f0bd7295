-- A word of FIPS 197, section 3.5: four octets, here the number of 32 bits that they spell, the first octet the most significant.
-- Assumes nothing: these are definitions.
use Rattle.std.specs.Prelude.{ℕ, ◌++◌, get_or}
use Rattle.octets.specs.Octets.{Octets, encode}

-- octet j of a word, 0 the first
abbrev pub octet : ℕ → ℕ → ℕ
octet j x = get_or (encode 4 x) j 0

-- four words as 16 octets: the state whose columns they are
abbrev pub columns : ℕ → ℕ → ℕ → ℕ → Octets
columns a b c d = encode 4 a ++ (encode 4 b ++ (encode 4 c ++ encode 4 d))
