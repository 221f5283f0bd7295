-- The lowest refusal that applies, else the judgement.
use Rattle.std.proofs.Common.{sym, ap, ◌∙◌}
use Rattle.functions.specs.Sets.{sets}
use Rattle.aka.specs.Editions.{editions}
use Rattle.aka.specs.Usim.{refused}
use Rattle.aka.proofs.Verdicts.{judged, lengths_right_lem}
use Rattle.usim_record.specs.Views.{usim_of}
use Rattle.usim.proofs.Answered.{answered, refusal}
use Rattle.usim.proofs.challenge.Goals as goal

pub returns-in-Ok-clause-answer : goal.returns-in-Ok-clause-answer
returns-in-Ok-clause-answer c =
    let ok = c.in-Ok.ensures.ok in
    let valid = rw ok.0 at c.in-Ok.card.valid in
    let good = lengths_right_lem c.args.rand.now c.args.autn.now ok.1 ok.2 in
    (answered (usim_of c.args.usim) c.args.rand.now c.args.autn.now _ _ (judged editions sets _ _ _ valid good)
    (rw (ok.0, c.array.ensures, c.array-in-Ok.ensures) at c.authenticate.ensures)).0

pub returns-in-Err-clause-answer : goal.returns-in-Err-clause-answer
returns-in-Err-clause-answer c =
    (refusal (usim_of c.args.usim) c.args.rand.now c.args.autn.now _ c.number.result
    (c.in-Err.ensures.err ∙ ap refused (sym c.number.ensures)) c.unchanged.ensures).0
