-- The lines that the bench takes. Document 01, 'The bench program': a line begins with one of six words, and its fields follow after one
-- space each, with no other spaces. Assumes nothing: these are definitions.
use Rattle.std.specs.Prelude.{ℕ, zero, suc, ◌+◌, ◌-◌, ◌*◌, Bool, true, ◌&&◌, cond, List, [], ◌++◌, eqb, leb, ltb, length, get_or, drop}
use Rattle.octets.specs.Ascii.{ascii}
use Rattle.octets.specs.Octets.{Octets, zeros}
use Rattle.fields.specs.Fields.{field, end_of, begins, hex_field_size, is_hex_field, octets_in, is_decimal_digit, decimal_digit}
use Rattle.fields.specs.Fields.{decimal, is_decimal}
use Rattle.aka.specs.Layout.{key_size, amf_size, rand_size, most_vectors}

-- ---- what a line asks for

pub data Word : Type 0 where
  bad_line : Word
  key : Word
  order : Word
  ask : Word
  put : Word
  resync : Word
  show : Word

-- the octets of as many RANDs as a line can have
abbrev pub rands_size : ℕ
rands_size = rand_size * most_vectors

-- what the word does not name is zero
pub record Command : Type 0 where
  pub word : Word
  pub set : ℕ
  pub k : Octets
  pub opc : Octets
  pub amf : Octets
  pub count : ℕ
  pub rands : Octets  -- the RANDs one behind the other, then zeros: `rands_size` octets
  pub seqhe : ℕ
  pub next : ℕ

-- a word and nothing else
unfoldable pub alone : Word → Command
alone word = record {
  word = word;
  set = 0;
  k = zeros key_size;
  opc = zeros key_size;
  amf = zeros amf_size;
  count = 0;
  rands = zeros rands_size;
  seqhe = 0;
  next = 0;
}

-- ---- `key S K OPC AMF`: one digit, then 16, 16 and 2 octets in hex

abbrev pub key_word : List ℕ
key_word = ascii "key "

-- where the set, and the spaces before K, OPc and AMF stand; the length of the line
abbrev pub set_at : ℕ
set_at = length key_word

abbrev pub k_at : ℕ
k_at = set_at + 1

abbrev pub opc_at : ℕ
opc_at = k_at + hex_field_size key_size

abbrev pub key_amf_at : ℕ
key_amf_at = opc_at + hex_field_size key_size

abbrev pub key_length : ℕ
key_length = key_amf_at + hex_field_size amf_size

unfoldable pub key_form : List ℕ → Bool
key_form line =
    eqb (length line) key_length
    && (is_decimal_digit (get_or line set_at 0)
    && (is_hex_field key_size k_at line
    && (is_hex_field key_size opc_at line
    && is_hex_field amf_size key_amf_at line)))

unfoldable pub key_command : List ℕ → Command
key_command line = record {
  word = key;
  set = decimal_digit (get_or line set_at 0);
  k = octets_in key_size k_at line;
  opc = octets_in key_size opc_at line;
  amf = octets_in amf_size key_amf_at line;
  count = 0;
  rands = zeros rands_size;
  seqhe = 0;
  next = 0;
}

unfoldable pub read_key : List ℕ → Command
read_key line = cond (key_form line) (key_command line) (alone bad_line)

-- ---- `order N R1 .. RN` and `resync N R1 .. RN`: one digit 1 to 5, then so many times 16 octets in hex

abbrev pub order_word : List ℕ
order_word = ascii "order "

abbrev pub resync_word : List ℕ
resync_word = ascii "resync "

-- the digit 1 to 5 at a place; 0 where there is none
unfoldable pub count_at : (at : ℕ) (line : List ℕ) → ℕ
count_at at line =
    let digit : ℕ = decimal_digit (get_or line at 0) in
    cond (leb 1 digit && leb digit most_vectors) digit 0

-- the space before the RAND at place i of those that stand from a place of the line on
abbrev pub rand_field_at : (from i : ℕ) → ℕ
rand_field_at from i = from + hex_field_size rand_size * i

-- from a place on stand n RANDs, each after a space
unfoldable pub rand_fields : (n from : ℕ) (line : List ℕ) → Bool
rand_fields zero from line = true
rand_fields (suc n) from line = rand_fields n from line && is_hex_field rand_size (rand_field_at from n) line

-- their octets
unfoldable pub rand_octets : (n from : ℕ) (line : List ℕ) → Octets
rand_octets zero from line = []
rand_octets (suc n) from line = rand_octets n from line ++ octets_in rand_size (rand_field_at from n) line

-- `at` is the place of the count
unfoldable pub batch_form : (at : ℕ) (line : List ℕ) → Bool
batch_form at line =
    ltb 0 (count_at at line)
    && (eqb (length line) (rand_field_at (at + 1) (count_at at line))
    && rand_fields (count_at at line) (at + 1) line)

-- n RANDs from a place of the line on
unfoldable pub batch_command : Word → (n from : ℕ) (line : List ℕ) → Command
batch_command word n from line = record {
  word = word;
  set = 0;
  k = zeros key_size;
  opc = zeros key_size;
  amf = zeros amf_size;
  count = n;
  rands = rand_octets n from line ++ zeros (rands_size - rand_size * n);
  seqhe = 0;
  next = 0;
}

unfoldable pub read_batch : Word → (at : ℕ) (line : List ℕ) → Command
read_batch word at line = cond (batch_form at line) (batch_command word (count_at at line) (at + 1) line) (alone bad_line)

-- ---- `put SEQHE NEXT`: 1 to 13 and 1 or 2 decimal digits

abbrev pub put_word : List ℕ
put_word = ascii "put "

abbrev pub seqhe_at : ℕ
seqhe_at = length put_word

abbrev pub seqhe_digits : ℕ
seqhe_digits = 13

abbrev pub next_digits : ℕ
next_digits = 2

-- a decimal number of at most so many digits
unfoldable pub is_number : (most : ℕ) (text : List ℕ) → Bool
is_number most text = leb (length text) most && is_decimal text

-- SEQHE goes up to the next space, NEXT from there to the end of the line
unfoldable pub seqhe_text : List ℕ → List ℕ
seqhe_text line = field (drop seqhe_at line)

unfoldable pub next_text : List ℕ → List ℕ
next_text line = drop (end_of line seqhe_at + 1) line

unfoldable pub put_form : List ℕ → Bool
put_form line = is_number seqhe_digits (seqhe_text line) && is_number next_digits (next_text line)

unfoldable pub put_command : (seqhe next : ℕ) → Command
put_command seqhe next = record {
  word = put;
  set = 0;
  k = zeros key_size;
  opc = zeros key_size;
  amf = zeros amf_size;
  count = 0;
  rands = zeros rands_size;
  seqhe = seqhe;
  next = next;
}

unfoldable pub read_put : List ℕ → Command
read_put line = cond (put_form line) (put_command (decimal (seqhe_text line)) (decimal (next_text line))) (alone bad_line)

-- ---- `ask` and `show`, with nothing behind them

abbrev pub ask_word : List ℕ
ask_word = ascii "ask"

abbrev pub show_word : List ℕ
show_word = ascii "show"

unfoldable pub is_word : (word line : List ℕ) → Bool
is_word word line = eqb (length line) (length word) && begins word line

-- ---- any line

abbrev pub longest : ℕ
longest = 512

-- the word decides which form the line must have
unfoldable pub read_form : List ℕ → Command
read_form line =
    cond (begins key_word line) (read_key line)
    (cond (begins order_word line) (read_batch order (length order_word) line)
    (cond (begins resync_word line) (read_batch resync (length resync_word) line)
    (cond (begins put_word line) (read_put line)
    (cond (is_word ask_word line) (alone ask)
    (cond (is_word show_word line) (alone show)
    (alone bad_line))))))

unfoldable pub read : List ℕ → Command
read line = cond (ltb longest (length line)) (alone bad_line) (read_form line)
