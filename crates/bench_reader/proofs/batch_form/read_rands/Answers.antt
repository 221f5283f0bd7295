use Rattle.std.proofs.Common.{ℕ, ◌≡◌, ◌+◌, ◌-◌, ◌*◌, ◌≤◌, Bool, true, List, refl, sym, ap, ◌∙◌, length, arith}
use native.Mathlib.Numerals.{add-one}
use borrow.Rule.Slice.PartMut.{mid_of, same_len_mid}
use lib.ListN.{length-append, length-take, length-drop}
use Rattle.octets.specs.Octets.{Octets}
use Rattle.fields.specs.Fields.{is_hex_field, octets_in, read_field_into}
use Rattle.fields.proofs.FieldLaws.{field_octets}
use Rattle.aka.specs.Layout.{rand_size}
use Rattle.bench_reader.specs.Commands.{rand_field_at, rand_fields, rand_octets}
use Rattle.bench_reader.proofs.RandFields.{missing, one_more, put_rand}
use Rattle.bench_reader.proofs.BatchForms.{no_rands, rands_read}
use Rattle.bench_reader.proofs.batch_form.read_rands.Goals as goal

-- the answer for the room of RAND i speaks of 16 octets
said : (room : Octets) (from i : ℕ) (line : List ℕ) {ok : Bool} → length room ≡ rand_size
    → ok ≡ is_hex_field (length room) (rand_field_at from i) line → ok ≡ is_hex_field rand_size (rand_field_at from i) line
said room from i line size e = e ∙ ap (λ (n : ℕ). is_hex_field n (rand_field_at from i) line) size

next_is : (room : Octets) (from i : ℕ) (line : List ℕ) {ok : Bool} {after : Octets} → length room ≡ rand_size
    → ok ≡ is_hex_field (length room) (rand_field_at from i) line → after ≡ read_field_into room (rand_field_at from i) line
    → ok ≡ true → after ≡ octets_in rand_size (rand_field_at from i) line
next_is room from i line size e f t =
    field_octets room (rand_field_at from i) line e f t ∙ ap (λ (n : ℕ). octets_in n (rand_field_at from i) line) size

-- one RAND more is 16 octets more
more : (from i : ℕ) (line : List ℕ) {x : Octets} → length (rand_octets i from line) ≡ rand_size * i → length x ≡ rand_size
    → x ≡ octets_in rand_size (rand_field_at from i) line → length (rand_octets (i + 1) from line) ≡ rand_size * (i + 1)
unfolding rand_octets
more from i line read size e =
    rw (add-one i, length-append (rand_octets i from line) (octets_in rand_size (rand_field_at from i) line), ← e)
    (omega arith)

-- the part of the buffer for the next RAND
room_size : (i : ℕ) (rands : Octets) → rand_size * i + rand_size ≤ length rands
    → length (mid_of (rand_size * i) (rand_size * i + rand_size - rand_size * i) rands) ≡ rand_size
room_size i rands h = simp (length-take, length-drop) (omega arith)

pub loop-i-init : goal.loop-i-init
unfolding rand_fields rand_octets
loop-i-init c = record { size = refl; read = refl; there = refl; octets = refl }

pub returns-then-not-hex_field : goal.returns-then-not-hex_field
returns-then-not-hex_field c =
    let l = c.loop-i in
    let size = room_size l.i l.octets (omega arith) in
    λ word. no_rands word c.args.count c.args.from c.args.line.now
    (missing c.args.from c.args.line.now c.args.count l.i (omega arith)
    (sym (said _ c.args.from l.i c.args.line.now size c.hex_field.ensures.answer) ∙ c.if-not-hex_field.true))

pub loop-i-preserved : goal.loop-i-preserved
loop-i-preserved c =
    let l = c.loop-i in
    let from = c.args.from in
    let line = c.args.line.now in
    let size = room_size l.i l.octets (omega arith) in
    let there = c.if-not-hex_field.false in
    let rand = next_is _ from l.i line size c.hex_field.ensures.answer c.hex_field.ensures.octets there in
    record {
      size =
          same_len_mid (rand_size * l.i) (rand_size * l.i + rand_size - rand_size * l.i) l.octets _ c.hex_field.auto.out
          ∙ l.invariant.size;
      read = more from l.i line l.invariant.read (c.hex_field.auto.out ∙ size) rand;
      there = one_more from line l.i l.invariant.there (sym (said _ from l.i line size c.hex_field.ensures.answer) ∙ there);
      octets = put_rand from line l.i _ l.invariant.read l.invariant.octets rand;
    }

pub returns : goal.returns
returns c =
    let l = c.loop-i in
    let all : l.i ≡ c.args.count = omega arith in
    λ word. rands_read word c.args.count c.args.from c.args.line.now
    (rw all at l.invariant.there) (rw all at l.invariant.octets)
