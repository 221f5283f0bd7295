-- `f3` is f3 of either set.
use Rattle.std.proofs.Common.{ap, ◌∙◌}
use Rattle.octets.specs.Octets.{turn_left}
use Rattle.functions.specs.Sets.{Outputs, test_outputs, milenage_outputs}
use Rattle.functions.proofs.Prepared.{of_test_set, of_milenage}
use Rattle.functions.proofs.PreparedRand.f3.Goals as goal

pub returns-in-TestSet : goal.returns-in-TestSet
unfolding test_outputs
returns-in-TestSet c = c.turned_left.ensures ∙ ap (turn_left 1) c.into.ensures ∙ of_test_set (λ (o : Outputs). o.f3) c.in-TestSet.is

pub returns-in-Milenage : goal.returns-in-Milenage
unfolding milenage_outputs
returns-in-Milenage c = c.into-in-Milenage.ensures ∙ c.out3.ensures ∙ of_milenage (λ (o : Outputs). o.f3) c.in-Milenage.is
