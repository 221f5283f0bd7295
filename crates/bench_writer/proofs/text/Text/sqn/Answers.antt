-- The text put is the hex of the six octets.
use Rattle.std.proofs.Common.{ℕ, ◌*◌, List, ◌++◌, refl, ap, ◌∙◌, take}
use Rattle.octets.specs.Octets.{zeros}
use Rattle.aka.specs.Layout.{sqn_size}
use Rattle.bench_writer.proofs.DecimalLaws.{sqn_digits}
use Rattle.bench_writer.proofs.text.Text.sqn.Goals as goal

pub returns-clause-text : goal.returns-clause-text
returns-clause-text c =
    c.put.ensures.text
    ∙ ap (λ (t : List ℕ). take c.args.self.used c.args.self.bytes ++ t)
    (sqn_digits c.args.sqn (zeros (2 * sqn_size)) c.sqn_octets.ensures refl c.write.ensures.text)
