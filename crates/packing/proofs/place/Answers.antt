-- The word that ends with the octet in which the bits end has them all.
use Rattle.std.proofs.Common.{ℕ, ◌-◌, ◌*◌, ◌/◌, ◌%◌, ◌^◌, ◌<◌, ◌≡◌, ap, ap₂, ◌∙◌, length, arith}
use native.Mathlib.Nat.{one-mul}
use lib.Pow.{shl_exact}
use Rattle.octets.specs.Octets.{Below, part, decode}
use Rattle.packing.proofs.Reading.{field_in}
use Rattle.packing.proofs.place.Goals as goal

-- a power of two below the width of a word
unit : (k : ℕ) → k < 64 → 1 * 2 ^ k % 2 ^ 64 ≡ 2 ^ k
unit k h = shl_exact 1 k 64 (omega arith) (omega arith) ∙ one-mul (2 ^ k)

pub returns : goal.returns
returns c =
    let args = c.args in
    let x = args.x.now in
    let start = length x - args.left / 8 - 8 in
    let size : length x - args.left / 8 - start ≡ 8 = omega arith in
    let octets : Below 256 x = λ i h. (c.type_inv.x i).fits in
    ap₂ (λ (w p : ℕ). w / 2 ^ (args.left % 8) % p)
    (c.word.ensures ∙ ap (λ (k : ℕ). decode (part start k x)) size) (unit args.bits (omega arith))
    ∙ field_in x octets start args.left args.bits (omega arith) (omega arith)
