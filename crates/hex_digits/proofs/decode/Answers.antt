use Rattle.std.proofs.Common.{ℕ, ◌≡◌, ◌+◌, ◌*◌, refl, sym, ◌∙◌, length, get_or, arith}
use mathlib.Core.Path.{ap₂}
use Rattle.hex_digits.specs.Hex.{unhex}
use Rattle.octets.proofs.Walks.{paste_next, paste_all}
use Rattle.hex_digits.proofs.HexLaws.{digit_at, length_unhex, unhex_at}
use Rattle.hex_digits.proofs.decode.Goals as goal

pub value-high-requires : goal.value-high-requires
value-high-requires c = digit_at _ _ c.requires.text_value (omega arith)

pub value-low-requires : goal.value-low-requires
value-low-requires c = digit_at _ _ c.requires.text_value (omega arith)

pub loop-i-preserved : goal.loop-i-preserved
loop-i-preserved c =
    let l = c.loop-i in
    let t = c.args.text.now in
    let size : length (unhex t) ≡ length c.args.out.now = length_unhex _ t c.requires.text_len in
    let octet : c.value-high.result * 16 + c.value-low.result ≡ get_or (unhex t) l.i 0 =
    ap₂ (λ (a b : ℕ). a * 16 + b) c.value-high.ensures.value c.value-low.ensures.value ∙ sym (unhex_at t l.i (omega arith)) in
    paste_next _ 0 (unhex t) l.i l.invariant (omega arith) octet (omega arith) (omega arith)

pub returns : goal.returns
returns c =
    let l = c.loop-i in
    let t = c.args.text.now in
    let done : l.i ≡ length c.args.out.now = omega arith in
    l.invariant ∙ rw done (paste_all _ (unhex t) _ (length_unhex _ t c.requires.text_len) refl)
