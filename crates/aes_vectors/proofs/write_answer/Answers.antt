-- `write_answer` writes the line of an answer.
use Rattle.std.proofs.Common.{ℕ, List, ◌≡◌, ◌≤◌, ◌+◌, ◌++◌, true, false, sym, ap, ◌∙◌, length, take, arith}
use Rattle.octets.specs.Ascii.{ascii}
use Rattle.console.proofs.BufferLaws.{appended_fits}
use Rattle.hex_digits.specs.Hex.{hex}
use Rattle.aes_vectors.specs.Answer.{answered, answer_text, ciphertext, well_formed}
use Rattle.aes_vectors.proofs.write_answer.Goals as goal

bad : (line : List ℕ) {text : List ℕ} → false ≡ well_formed line → text ≡ ascii "bad line\n" → text ≡ answer_text line
unfolding answer_text
bad line e is = rw (sym e) is

good : (line old : List ℕ) {digits text : List ℕ} → true ≡ well_formed line → digits ≡ answered old line → text ≡ digits ++ ascii "\n"
    → text ≡ answer_text line
unfolding answer_text answered
good line old {digits} e is t =
    let whole : digits ≡ hex (ciphertext line) = is ∙ rw (sym e) in
    rw (sym e) (t ∙ ap (λ (l : List ℕ). l ++ ascii "\n") whole)

pub returns-then-not-ciphertext : goal.returns-then-not-ciphertext
returns-then-not-ciphertext c =
    bad c.args.line.now c.if-not-ciphertext.ensures.answer (appended_fits c.args.text.now 0 _ c.append.ensures (omega arith))

pub returns : goal.returns
returns c =
    let digits = c.ciphertext.new.out in
    let front : take c.append-n.result c.append-n.new.buffer ≡ digits =
    appended_fits c.args.text.now 0 digits c.append-n.ensures (omega arith) in
    let room : length (take c.append-n.result c.append-n.new.buffer) + 1 ≤ length c.append-n.new.buffer =
    rw front (omega arith) in
    good c.args.line.now _ c.if-not-ciphertext.ensures.answer c.ciphertext.ensures.text
    (appended_fits c.append-n.new.buffer c.append-n.result (ascii "\n") c.append-2.ensures room
    ∙ ap (λ (l : List ℕ). l ++ ascii "\n") front)
