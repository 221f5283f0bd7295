use Rattle.std.proofs.Common.{◌≡◌, ◌+◌, ◌*◌, sym, ◌∙◌, length, set, arith}
use lib.Seq.{paste}
use Rattle.hex_digits.specs.Hex.{hex}
use Rattle.octets.proofs.Walks.{paste_next, paste_all}
use Rattle.hex_digits.proofs.HexLaws.{length_hex, hex_high, hex_low}
use Rattle.hex_digits.proofs.encode.Goals as goal

pub loop-i-preserved : goal.loop-i-preserved
loop-i-preserved c =
    let l = c.loop-i in
    let o = c.args.octets.now in
    let size : length (hex o) ≡ 2 * length o = length_hex o in
    let glyph = c.glyph.ensures ∙ sym (hex_high o l.i (omega arith)) in
    let high : set l.out (2 * l.i) c.glyph.result ≡ paste c.args.out.now 0 (hex o) (2 * l.i + 1) =
    paste_next _ 0 (hex o) (2 * l.i) l.invariant (omega arith) glyph (omega arith) (omega arith) in
    let glyph_low = c.glyph-in-loop-i.ensures ∙ sym (hex_low o l.i (omega arith)) in
    let both : 2 * (l.i + 1) ≡ 2 * l.i + 1 + 1 = omega arith in
    rw both (paste_next _ 0 (hex o) (2 * l.i + 1) high (omega arith) glyph_low (omega arith) (omega arith))

pub returns : goal.returns
returns c =
    let l = c.loop-i in
    let o = c.args.octets.now in
    let done : 2 * l.i ≡ 2 * length o = omega arith in
    l.invariant ∙ rw done (paste_all _ (hex o) _ (length_hex o) c.requires)
