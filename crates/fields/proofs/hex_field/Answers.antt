-- `hex_field` reads the field at a place, where the line goes on far enough.
use Rattle.std.proofs.Common.{ℕ, Bool, List, ◌≡◌, ◌≢◌, ◌≤◌, ◌<◌, ◌+◌, ◌-◌, ◌*◌, false, sym, ap}
use Rattle.std.proofs.Common.{length, get_or, take, drop, length-take, length-drop, arith}
use mathlib.Core.Bool.{and-false}
use borrow.Author.Tests.{eq-eqb, ne_eqb}
use lib.Dec.{eqb}
use lib.ListN.{get_or-eq_default}
use lib.Seq.{take_all}
use Rattle.octets.specs.Octets.{part}
use Rattle.hex_digits.specs.Hex.{is_hex, read_into}
use Rattle.fields.specs.Fields.{space, is_hex_field, octets_in, read_field_into}
use Rattle.fields.proofs.hex_field.Goals.{then-line-at-via-then-line-at, then-line-at-via-else-line-at+then-line-at-ne32}
use Rattle.fields.proofs.hex_field.Goals as goal

module _ (out : List ℕ) (at : ℕ) (line : List ℕ) where
  -- no field: the octets are as they were
  kept : is_hex_field (length out) at line ≡ false → out ≡ read_field_into out at line
  unfolding read_field_into
  kept e = rw e

  no_space : get_or line at 0 ≢ space → is_hex_field (length out) at line ≡ false
  unfolding is_hex_field
  no_space h = rw (ne_eqb (get_or line at 0) space h)

  line_ends : length line ≤ at → is_hex_field (length out) at line ≡ false
  line_ends h = no_space (λ e. absurd (omega (arith, e, get_or-eq_default line 0 h)))

  too_short : length line - (at + 1) < 2 * length out → is_hex_field (length out) at line ≡ false
  unfolding is_hex_field is_hex
  too_short h =
      let other : length (part (at + 1) (2 * length out) line) ≢ 2 * length out =
      λ e. absurd (omega (arith, simp (length-take, length-drop) at e)) in
      rw (ne_eqb (length (part (at + 1) (2 * length out) line)) (2 * length out) other) (and-false (eqb (get_or line at 0) space))

  there : {ok : Bool} {after text : List ℕ} → get_or line at 0 ≡ space → text ≡ part (at + 1) (2 * length out) line
      → ok ≡ is_hex (length out) text → after ≡ read_into out text
      → (ok ≡ is_hex_field (length out) at line) × (after ≡ read_field_into out at line)
  unfolding is_hex_field octets_in read_field_into read_into
  there {ok} {after} {text} h t a b = rw (eq-eqb (get_or line at 0) space h, ← t) (a, b)

pub returns-then-line-at : goal.returns-then-line-at
returns-then-line-at c =
    let out = c.args.out.now in
    let at = c.args.at in
    let line = c.args.line.now in
    let none : is_hex_field (length out) at line ≡ false =
    elim c.then-line-at.branch [
      | then-line-at-via-then-line-at w ↦ line_ends out at line w.if-line-at.true
      | then-line-at-via-else-line-at+then-line-at-ne32 w ↦ no_space out at line w.if-line-at-ne32.true
    ] in
    record { answer = sym none; octets = kept out at line none }

pub returns-then-text-size : goal.returns-then-text-size
returns-then-text-size c =
    let x = c.if-text-size.true in
    let e = too_short c.args.out.now c.args.at c.args.line.now (omega arith) in
    record { answer = sym e; octets = kept _ _ _ e }

pub returns : goal.returns
returns c =
    let out = c.args.out.now in
    let at = c.args.at in
    let line = c.args.line.now in
    let n = 2 * length out in
    let text : take n (take (length line - (at + 1)) (drop (at + 1) line)) ≡ part (at + 1) n line =
    ap (take n) (take_all (length line - (at + 1)) (drop (at + 1) line) (simp length-drop (omega arith))) in
    let both = there out at line c.if-line-at-ne32.false text c.read.ensures.answer c.read.ensures.octets in
    record { answer = both.0; octets = both.1 }
