-- Once MAC is right, the test of freshness is the judgement.
use Rattle.std.proofs.Common.{ap, ◌∙◌, refl}
use Rattle.aka.specs.Usim.{sync_failure, unchanged, judgement, answer_with}
use Rattle.usim_record.specs.declared.Verdict.TheVariants.{Sync}
use Rattle.usim_record.specs.Views.{usim_of}
use Rattle.usim.proofs.Answered.{unchanged_for}
use Rattle.usim.proofs.Card.judge_sqn.Goals as goal

pub returns-then-not-is_fresh : goal.returns-then-not-is_fresh
unfolding judgement answer_with
returns-then-not-is_fresh c = λ rand autn v.
    let usim = usim_of c.args.self.now.usim in
    rw (v.mac, ← v.sqn, ← c.row-m.ensures.indices.number, ← c.is_fresh.ensures, c.if-not-is_fresh.true)
    (unchanged_for usim rand autn _ Sync _ refl refl refl (
      c.unchanged.ensures.0 ∙ ap (unchanged sync_failure usim) (c.auts.ensures usim.keys rand v.prepared),
      c.unchanged.ensures.1,
    ))

pub returns : goal.returns
unfolding judgement
returns c = λ rand autn v.
    rw (v.mac, ← v.sqn, ← c.row-m.ensures.indices.number, ← c.is_fresh.ensures, c.if-not-is_fresh.false)
    (c.accept.ensures rand autn v)
