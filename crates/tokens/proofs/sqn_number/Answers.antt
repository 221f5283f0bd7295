-- `sqn_number` is `decode`.
use Rattle.std.proofs.Common.{ℕ, ◌<◌, get_or, ap, arith, rules}
use Rattle.octets.specs.Octets.{decode, spelt}
use Rattle.octets.proofs.Strings.{listed_all}
use Rattle.aka.specs.Layout.{sqn_size}
use Rattle.tokens.proofs.sqn_number.Goals as goal

pub returns : goal.returns
unfolding spelt
returns c =
    let octet : (i : ℕ) → get_or c.args.x i 0 < 256 = search rules in (
      omega (arith, ap decode (listed_all c.args.x sqn_size c.well_formed.0.1.0.1)),
      omega (arith, octet 0, octet 1, octet 2, octet 3, octet 4, octet 5),
    )
