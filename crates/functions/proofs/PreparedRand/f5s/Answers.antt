-- `f5s` is f5* of either set.
use Rattle.std.proofs.Common.{ap, ◌∙◌, take}
use Rattle.octets.specs.Octets.{part}
use Rattle.functions.specs.Sets.{Outputs, test_outputs, milenage_outputs}
use Rattle.functions.proofs.Prepared.{of_test_set, of_milenage}
use Rattle.functions.proofs.PreparedRand.f5s.Goals as goal

pub returns-in-TestSet : goal.returns-in-TestSet
unfolding test_outputs
returns-in-TestSet c = c.piece.ensures ∙ ap (part 3 6) c.into.ensures ∙ of_test_set (λ (o : Outputs). o.f5*) c.in-TestSet.is

pub returns-in-Milenage : goal.returns-in-Milenage
unfolding milenage_outputs
returns-in-Milenage c =
    c.piece-in-Milenage.ensures ∙ ap (take 6) (c.into-in-Milenage.ensures ∙ c.out5.ensures)
    ∙ of_milenage (λ (o : Outputs). o.f5*) c.in-Milenage.is
