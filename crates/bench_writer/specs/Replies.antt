-- What the bench answers to a line, and its text. Document 01, 'The bench program'. Assumes nothing: these are definitions.
use Rattle.std.specs.Prelude.{ℕ, zero, suc, ◌+◌, ◌/◌, ◌%◌, cond, List, [], ◌∷◌, ◌++◌, ltb, length, drop}
use Rattle.octets.specs.Ascii.{ascii}
use Rattle.octets.specs.Octets.{encode}
use Rattle.hex_digits.specs.Hex.{hex}
use Rattle.fields.specs.Fields.{most_digits}
use Rattle.aka.specs.Layout.{sqn_size}

pub data Reply : Type 0 where
  key_ok : Reply
  put_ok : Reply
  bad_line : Reply
  stored : (count held : ℕ) → Reply
  kept : (count held : ℕ) → Reply
  reset : (count held : ℕ) → Reply
  pass : (sqn left : ℕ) → Reply
  sync : Reply
  mac : Reply
  cause : (number : ℕ) → Reply  -- the node's cause for a RES that is not XRES
  refused : (number : ℕ) → Reply
  shown : (seqhe next seqms index : ℕ) → Reply

-- ---- numbers

-- a number in decimal without leading zeros, as far as its last k digits
unfoldable pub decimal_in : (k n : ℕ) → List ℕ
decimal_in zero n = []
decimal_in (suc k) n = cond (ltb n 10) ((48 + n) ∷ []) (decimal_in k (n / 10) ++ ((48 + n % 10) ∷ []))

-- a number of 64 bits
abbrev pub decimal_text : ℕ → List ℕ
decimal_text n = decimal_in most_digits n

-- an SQN in hex
abbrev pub sqn_text : ℕ → List ℕ
sqn_text sqn = hex (encode sqn_size sqn)

-- ---- words

abbrev pub newline : List ℕ
newline = ascii "\n"

abbrev pub key_ok_text : List ℕ
key_ok_text = ascii "key ok\n"

abbrev pub put_ok_text : List ℕ
put_ok_text = ascii "put ok\n"

abbrev pub bad_line_text : List ℕ
bad_line_text = ascii "bad line\n"

abbrev pub sync_text : List ℕ
sync_text = ascii "sync\n"

abbrev pub mac_text : List ℕ
mac_text = ascii "mac\n"

abbrev pub stored_word : List ℕ
stored_word = ascii "stored "

abbrev pub kept_word : List ℕ
kept_word = ascii "kept "

abbrev pub reset_word : List ℕ
reset_word = ascii "reset "

abbrev pub held_word : List ℕ
held_word = ascii " held "

abbrev pub pass_word : List ℕ
pass_word = ascii "pass "

abbrev pub left_word : List ℕ
left_word = ascii " left "

abbrev pub cause_word : List ℕ
cause_word = ascii "cause "

abbrev pub refused_word : List ℕ
refused_word = ascii "refused "

abbrev pub auc_word : List ℕ
auc_word = ascii "auc "

abbrev pub space_word : List ℕ
space_word = ascii " "

abbrev pub card_word : List ℕ
card_word = ascii " card "

-- ---- texts

-- a word and a number
abbrev pub labelled : (word : List ℕ) (n : ℕ) → List ℕ
labelled word n = word ++ decimal_text n

-- two of them
abbrev pub labelled_two : (word : List ℕ) (n : ℕ) (word' : List ℕ) (m : ℕ) → List ℕ
labelled_two word n word' m = labelled word n ++ labelled word' m

unfoldable pub text_of : Reply → List ℕ
text_of key_ok = key_ok_text
text_of put_ok = put_ok_text
text_of bad_line = bad_line_text
text_of (stored count held) = labelled_two stored_word count held_word held ++ newline
text_of (kept count held) = labelled_two kept_word count held_word held ++ newline
text_of (reset count held) = labelled_two reset_word count held_word held ++ newline
text_of (pass sqn left) = ((pass_word ++ sqn_text sqn) ++ labelled left_word left) ++ newline
text_of sync = sync_text
text_of mac = mac_text
text_of (cause number) = labelled cause_word number ++ newline
text_of (refused number) = labelled refused_word number ++ newline
text_of (shown seqhe next seqms index) =
    (labelled_two auc_word seqhe space_word next ++ labelled_two card_word seqms space_word index) ++ newline

-- ---- written to a buffer

-- room for every text
abbrev pub room : ℕ
room = 96

-- the length of the text, and what the buffer then holds
pub record Written : Type 0 where
  pub count : ℕ
  pub buffer : List ℕ

-- the text stands at the front and the rest is as it was; a buffer without room stays as it is
unfoldable pub written : Reply → (buffer : List ℕ) → Written
written reply buffer =
    cond (ltb (length buffer) room) (record { count = 0; buffer = buffer })
    (record { count = length (text_of reply); buffer = text_of reply ++ drop (length (text_of reply)) buffer })
