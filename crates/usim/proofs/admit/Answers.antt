-- The lowest refusal that applies.
use Rattle.std.proofs.Common.{false, ◌≡◌, refl, sym, ◌∙◌}
use borrow.Author.Tests.{eq-eqb, ne_eqb}
use Rattle.functions.specs.Sets.{sets}
use Rattle.aka.specs.Editions.{editions}
use Rattle.aka.specs.Usim.{lengths_right}
use Rattle.aka.proofs.Verdicts.{refused_1, refused_3}
use Rattle.usim.proofs.admit.Goals as goal
use Rattle.usim.proofs.admit.Goals.{then-rand-ne-RAND_SIZE-via-then-rand-ne-RAND_SIZE}
use Rattle.usim.proofs.admit.Goals.{then-rand-ne-RAND_SIZE-via-else-rand-ne-RAND_SIZE+then-autn-ne-AUTN_SIZE}

pub returns-then-not-is_valid-clause-err : goal.returns-then-not-is_valid-clause-err
returns-then-not-is_valid-clause-err c = refused_1 editions sets _ _ _ (sym c.is_valid.ensures ∙ c.if-not-is_valid.true)

pub returns-then-rand-ne-RAND_SIZE-clause-err : goal.returns-then-rand-ne-RAND_SIZE-clause-err
unfolding lengths_right
returns-then-rand-ne-RAND_SIZE-clause-err c =
    let bad : lengths_right c.args.rand.now c.args.autn.now ≡ false =
    elim c.then-rand-ne-RAND_SIZE.branch [
      | then-rand-ne-RAND_SIZE-via-then-rand-ne-RAND_SIZE w ↦ rw (ne_eqb _ _ w.if-rand-ne-RAND_SIZE.true) refl
      | then-rand-ne-RAND_SIZE-via-else-rand-ne-RAND_SIZE+then-autn-ne-AUTN_SIZE w ↦
          rw (eq-eqb _ _ w.if-rand-ne-RAND_SIZE.false, ne_eqb _ _ w.if-autn-ne-AUTN_SIZE.true) refl
    ] in
    refused_3 editions sets _ _ _ (sym c.is_valid.ensures ∙ c.if-not-is_valid.false) bad
