-- `mac_at` is f1 or f1* of either set.
use Rattle.std.proofs.Common.{ap, ◌∙◌}
use Rattle.octets.specs.Octets.{part}
use Rattle.milenage.specs.Milenage.{out1}
use Rattle.functions.proofs.PreparedRand.mac_at.Goals as goal

pub returns-in-TestSet : goal.returns-in-TestSet
returns-in-TestSet c = rw c.in-TestSet.is c.mac.ensures

pub returns-in-Milenage : goal.returns-in-Milenage
returns-in-Milenage c =
    let out = c.into.ensures ∙ c.out1.ensures ∙ ap (out1 _ _ _) c.in1.ensures in
    rw c.in-Milenage.is (c.piece.ensures ∙ ap (part c.args.at 8) out)
