-- The fields of a line: words, decimal numbers, octets in hex. Assumes nothing: these are definitions.
use Rattle.std.specs.Prelude.{ℕ, ◌+◌, ◌-◌, ◌*◌, ◌^◌, Bool, true, false, ◌&&◌, cond, Option, Some, None}
use Rattle.std.specs.Prelude.{List, [], ◌∷◌, map, eqb, leb, ltb, length, get_or, drop}
use Rattle.octets.specs.Octets.{Octets, number, part}
use Rattle.hex_digits.specs.Hex.{is_hex, unhex}

abbrev pub space : ℕ
space = 32

-- the bytes up to the first space, without it; all where there is none
unfoldable pub field : List ℕ → List ℕ
field [] = []
field (c ∷ t) = cond (eqb c space) [] (c ∷ field t)

-- where the field that starts at a place ends
unfoldable pub end_of : List ℕ → ℕ → ℕ
end_of line from = from + length (field (drop from line))

-- the line begins with a word
unfoldable pub begins : (word line : List ℕ) → Bool
begins [] line = true
begins (c ∷ word) [] = false
begins (c ∷ word) (d ∷ line) = eqb d c && begins word line

-- ---- octets in hex, after one space

-- the length of such a field
abbrev pub hex_field_size : (size : ℕ) → ℕ
hex_field_size size = 1 + 2 * size

-- at a place of the line stand one space and the hex of so many octets
unfoldable pub is_hex_field : (size at : ℕ) (line : List ℕ) → Bool
is_hex_field size at line = eqb (get_or line at 0) space && is_hex size (part (at + 1) (2 * size) line)

-- those octets
unfoldable pub octets_in : (size at : ℕ) (line : List ℕ) → Octets
octets_in size at line = unhex (part (at + 1) (2 * size) line)

-- octets read from that field: as they were where it is not there
unfoldable pub read_field_into : Octets → (at : ℕ) (line : List ℕ) → Octets
read_field_into octets at line = cond (is_hex_field (length octets) at line) (octets_in (length octets) at line) octets

-- ---- decimal numbers of at most 64 bits

-- the character is one of '0' to '9', and the digit that it stands for
unfoldable pub is_decimal_digit : ℕ → Bool
is_decimal_digit c = leb 48 c && leb c 57

abbrev pub decimal_digit : ℕ → ℕ
decimal_digit c = c - 48

unfoldable pub all_decimal : List ℕ → Bool
all_decimal [] = true
all_decimal (c ∷ t) = is_decimal_digit c && all_decimal t

-- the number that decimal digits spell
unfoldable pub decimal : List ℕ → ℕ
decimal t = number 10 (map decimal_digit t)

-- a number of 64 bits has at most so many digits
abbrev pub most_digits : ℕ
most_digits = 20

-- at least one digit, not too many, and a number of 64 bits
unfoldable pub is_decimal : List ℕ → Bool
is_decimal t = ltb 0 (length t) && leb (length t) most_digits && all_decimal t && ltb (decimal t) (2 ^ 64)

-- the number that a text is, and none where it is no such number
unfoldable pub number_in : List ℕ → Option ℕ
number_in t = cond (is_decimal t) (Some (decimal t)) None
