use Rattle.std.proofs.Common.{◌≡◌, true, false, rules}
use Rattle.std.proofs.lemmas.Iterator.{cases_from_all, YieldsList-from_slice}
use Rattle.hex_digits.specs.Hex.{is_hex_digit}
use Rattle.hex_digits.proofs.HexLaws.{decided}
use Rattle.hex_digits.proofs.all_hex_digits.Goals as goal

pub returns : goal.returns
returns c =
    let text = c.args.text.now in
    decided text c.all.result
    (cases_from_all _ _ _ (λ x. is_hex_digit x ≡ true) (λ x. is_hex_digit x ≡ false) c.all.ensures.ran (YieldsList-from_slice text cc)
    (λ x q k. search rules) (λ x q k. search rules))
