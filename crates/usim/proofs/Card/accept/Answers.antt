-- The answer of an acceptance.
use Rattle.std.proofs.Common.{◌∙◌, refl}
use Rattle.aka.specs.Usim.{answer_with}
use Rattle.functions.proofs.Prepared.{gives}
use Rattle.usim.proofs.Card.accept.Goals as goal

pub returns : goal.returns
unfolding answer_with
returns c = λ rand autn v.
    let law = gives _ rand c.args.prepared.now v.prepared in
    record {
      answer = rw (
        ← c.row-m.ensures.indices.number,
        v.sqn,
        v.res,
        c.f3-ck.ensures ∙ law.f3,
        c.f4-ik.ensures ∙ law.f4,
      ) refl;
      sqn = (v.sqn, v.fits);
    }
