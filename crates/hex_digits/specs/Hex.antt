-- Octets as lower-case hex text. Assumes nothing: these are definitions.
use Rattle.std.specs.Prelude.{ℕ, ◌+◌, ◌-◌, ◌*◌, ◌/◌, ◌%◌, Bool, true, ◌&&◌, ◌||◌, cond, List, [], ◌∷◌, eqb, leb, ltb, length}

-- the character of a digit 0 to 15: '0' to '9', then 'a' to 'f'
unfoldable pub glyph : ℕ → ℕ
glyph d = cond (ltb d 10) (48 + d) (97 + (d - 10))

-- the text of octets: two characters for each, the high digit first
unfoldable pub hex : List ℕ → List ℕ
hex [] = []
hex (b ∷ l) = glyph (b / 16) ∷ glyph (b % 16) ∷ hex l

-- the character is one of '0' to '9' or one of 'a' to 'f'
unfoldable pub is_hex_digit : ℕ → Bool
is_hex_digit c = leb 48 c && leb c 57 || leb 97 c && leb c 102

-- every character of a text is such a digit
unfoldable pub all_hex_digits : List ℕ → Bool
all_hex_digits [] = true
all_hex_digits (c ∷ t) = is_hex_digit c && all_hex_digits t

-- the text is the hex of n octets
unfoldable pub is_hex : ℕ → List ℕ → Bool
is_hex n t = eqb (length t) (2 * n) && all_hex_digits t

-- the digit that a character stands for
unfoldable pub value : ℕ → ℕ
value c = cond (leb c 57) (c - 48) (c - 97 + 10)

-- the octets of a text, one for each two characters
unfoldable pub unhex : List ℕ → List ℕ
unhex [] = []
unhex (a ∷ []) = []
unhex (a ∷ b ∷ t) = (value a * 16 + value b) ∷ unhex t

-- octets read from a text: those of the text where it is hex of so many, else as they were
unfoldable pub read_into : List ℕ → List ℕ → List ℕ
read_into octets t = cond (is_hex (length octets) t) (unhex t) octets

-- the text is twice as long as the octets
unfoldable pub has_room : List ℕ → List ℕ → Bool
has_room octets t = eqb (length t) (2 * length octets)

-- a text written from octets: their hex where it is twice as long, else as it was
unfoldable pub written_into : List ℕ → List ℕ → List ℕ
written_into t octets = cond (has_room octets t) (hex octets) t
