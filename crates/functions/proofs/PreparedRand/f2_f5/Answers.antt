-- `f2_f5` is f2 and f5 of either set.
use Rattle.std.proofs.Common.{ap, ◌∙◌, take}
use Rattle.octets.specs.Octets.{part}
use Rattle.functions.specs.Sets.{Outputs, test_outputs, milenage_outputs}
use Rattle.functions.proofs.Prepared.{of_test_set, of_milenage}
use Rattle.functions.proofs.PreparedRand.f2_f5.Goals as goal

pub returns-in-TestSet : goal.returns-in-TestSet
unfolding test_outputs
returns-in-TestSet c =
    let is = c.into-x.ensures in
    let set = c.in-TestSet.is in (
      c.piece.ensures ∙ ap (take 8) is ∙ of_test_set (λ (o : Outputs). o.f2) set,
      c.piece-in-TestSet.ensures ∙ ap (part 3 6) is ∙ of_test_set (λ (o : Outputs). o.f5) set,
    )

pub returns-in-Milenage : goal.returns-in-Milenage
unfolding milenage_outputs
returns-in-Milenage c =
    let is = c.into-out2.ensures ∙ c.out2.ensures in
    let set = c.in-Milenage.is in (
      c.piece-in-Milenage.ensures ∙ ap (part 8 8) is ∙ of_milenage (λ (o : Outputs). o.f2) set,
      c.piece-in-Milenage-2.ensures ∙ ap (take 6) is ∙ of_milenage (λ (o : Outputs). o.f5) set,
    )
