-- A line `KEY PLAINTEXT` and its answer, and what the program writes out for its input. Assumes nothing: these are definitions.
use Rattle.std.specs.Prelude.{ℕ, ◌<◌, Bool, ◌&&◌, cond, List, ◌++◌, eqb, length}
use Rattle.octets.specs.Ascii.{ascii}
use Rattle.octets.specs.Octets.{Octets, part}
use Rattle.aes.specs.Cipher.{aes}
use Rattle.hex_digits.specs.Hex.{hex, is_hex, unhex}
use Rattle.fields.specs.Fields.{is_hex_field, octets_in}
use Rattle.console.specs.Turns.{Answer, AnswersAll}

-- the bytes of a line that is well formed
abbrev pub line_size : ℕ
line_size = 65

-- room for every answer
abbrev pub room : ℕ
room = 33

-- the key field, 32 characters, then a space and the 32 of the plaintext field
abbrev pub key_field : List ℕ → List ℕ
key_field line = part 0 32 line

unfoldable pub well_formed : List ℕ → Bool
well_formed line = eqb (length line) line_size && (is_hex 16 (key_field line) && is_hex_field 16 32 line)

-- the ciphertext of a line
unfoldable pub ciphertext : List ℕ → Octets
ciphertext line = aes (unhex (key_field line)) (octets_in 16 32 line)

-- a text that is the answer to a line: its ciphertext in hex where it is well formed, else as it was
unfoldable pub answered : List ℕ → List ℕ → List ℕ
answered text line = cond (well_formed line) (hex (ciphertext line)) text

-- the answer with the end of its line
unfoldable pub answer_text : List ℕ → List ℕ
answer_text line = cond (well_formed line) (hex (ciphertext line) ++ ascii "\n") (ascii "bad line\n")

-- no line changes the answers to others
unfoldable pub line_answer : Unit {0} → (line : List ℕ) → Answer (Unit {0})
line_answer state line = record { text = answer_text line; after = state }

-- what is written out is the answers to the lines of the input. The line buffer has more bytes than a line that is well formed
abbrev pub Serves : Type 0
Serves = (size room : ℕ) → line_size < size → AnswersAll line_answer tt size room
