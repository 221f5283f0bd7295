-- `ciphertext` answers a line: its tests are those of `well_formed`, and where none fails the answer is written.
use Rattle.std.proofs.Common.{Bool, List, ℕ, ◌≡◌, ◌&&◌, ◌*◌, true, false, sym, ◌∙◌, length, arith}
use mathlib.Core.Bool.{and-eq-true_iff}
use mathlib.Core.Path.{ap₂}
use borrow.Author.Tests.{eq-eqb, ne_eqb}
use lib.Seq.{length-take-le}
use Rattle.hex_digits.specs.Hex.{has_room, hex, is_hex, read_into, unhex, written_into}
use Rattle.fields.specs.Fields.{is_hex_field, octets_in, read_field_into}
use Rattle.aes.specs.Cipher.{aes}
use Rattle.aes_vectors.specs.Answer.{answered, ciphertext, key_field, line_size, well_formed}
use Rattle.aes_vectors.proofs.ciphertext.Goals as goal

-- a line that is not well formed, and one that is
kept : (text line : List ℕ) → false ≡ well_formed line → text ≡ answered text line
unfolding answered
kept text line e = rw (sym e)

accepted : (text line octets : List ℕ) → well_formed line ≡ true → octets ≡ ciphertext line → hex octets ≡ answered text line
unfolding answered
accepted text line octets e is = rw (e, is)

-- the tests of the code, on a line of another length and of the right one
other : (line : List ℕ) → (length line ≡ line_size → ⊥) → false ≡ well_formed line
unfolding well_formed
other line h = rw (ne_eqb _ _ h)

formed : (line : List ℕ) {key block : Bool} → length line ≡ line_size → key ≡ is_hex 16 (key_field line) → block ≡ is_hex_field 16 32 line
    → key && block ≡ well_formed line
unfolding well_formed
formed line size k b = rw (eq-eqb _ _ size, k, b)

-- octets read from a text and from a field that are hex, and written to a text that has room
octets : (old t : List ℕ) → is_hex (length old) t ≡ true → read_into old t ≡ unhex t
unfolding read_into
octets old t e = rw e

field : (old line : List ℕ) → is_hex_field (length old) 32 line ≡ true → read_field_into old 32 line ≡ octets_in (length old) 32 line
unfolding read_field_into
field old line e = rw e

written : (text x : List ℕ) → has_room x text ≡ true → written_into text x ≡ hex x
unfolding written_into
written text x e = rw e

pub returns-then-line-ne-LINE_SIZE : goal.returns-then-line-ne-LINE_SIZE
returns-then-line-ne-LINE_SIZE c =
    let no = other _ c.if-line-ne-LINE_SIZE.true in
    record { answer = no; text = kept _ _ no }

pub slice_bounds-read-end : goal.slice_bounds-read-end
slice_bounds-read-end c = sym (length-take-le 32 c.args.line.now (omega arith))

pub returns-then-read-hex_field : goal.returns-then-read-hex_field
unfolding ciphertext has_room
returns-then-read-hex_field c =
    let line = c.args.line.now in
    let out = c.args.out.now in
    let hexed = (and-eq-true_iff c.read.result c.hex_field.result).0 c.if-read-hex_field.true in
    let key = c.read.ensures.octets ∙ octets _ _ (sym c.read.ensures.answer ∙ hexed.0) in
    let block = c.hex_field.ensures.octets ∙ field _ line (sym c.hex_field.ensures.answer ∙ hexed.1) in
    let tests = formed line c.if-line-ne-LINE_SIZE.false c.read.ensures.answer c.hex_field.ensures.answer in
    let good = sym tests ∙ c.if-read-hex_field.true in
    let fits : length out ≡ 2 * length c.encrypted.result = omega arith in
    let room : has_room c.encrypted.result out ≡ true = eq-eqb _ _ fits in
    let is = c.encrypted.ensures ∙ ap₂ aes key block in
    record {
      answer = c.write.ensures.answer ∙ room ∙ sym good;
      text = c.write.ensures.text ∙ written _ _ room ∙ accepted _ line _ good is;
    }

pub returns : goal.returns
returns c =
    let tests = formed c.args.line.now c.if-line-ne-LINE_SIZE.false c.read.ensures.answer c.hex_field.ensures.answer in
    let no = sym c.if-read-hex_field.false ∙ tests in
    record { answer = no; text = kept _ _ no }
