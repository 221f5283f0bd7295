-- `order` is the whole answer: the lowest refusal that applies, else the batch.
use Rattle.std.proofs.Common.{ℕ, true, ◌∙◌}
use Rattle.functions.specs.Sets.{sets}
use Rattle.aka.specs.Editions.{editions}
use Rattle.aka.specs.Auc.{Auc, Outcome, given, unless_past}
use Rattle.auc_record.specs.Views.{auc_of}
use Rattle.auc.proofs.Answers.{asked, when_refused, when_asked, order_is}
use Rattle.auc.proofs.order.Goals as goal

-- the batch follows SEQ_HE; the outcome behind refusals 1 to 4; both by the count that results
abbrev from : Auc → (m : ℕ) → ℕ
from auc m = auc.seqhe

abbrev outcome : Auc → (m : ℕ) → Outcome
outcome auc m = unless_past editions sets auc auc.seqhe m given

pub invariant_of-rands : goal.invariant_of-rands
invariant_of-rands c =
    let a = c.args in
    let r = asked (auc_of a.auc) a.count a.rands.now a.batch.now true _ _ c.in-Ok.is c.check.ensures in
    record { few = r.few; whole = r.rands_size_lem }

pub generate-requires-clause-room : goal.generate-requires-clause-room
generate-requires-clause-room c =
    let a = c.args in
    let r = asked (auc_of a.auc) a.count a.rands.now a.batch.now true _ _ c.in-Ok.is c.check.ensures in
    r.seqhe

pub generate-requires-clause-lent : goal.generate-requires-clause-lent
generate-requires-clause-lent c =
    let a = c.args in
    let r = asked (auc_of a.auc) a.count a.rands.now a.batch.now true _ _ c.in-Ok.is c.check.ensures in
    r.buffer_size

pub returns-in-Err-clause-answer : goal.returns-in-Err-clause-answer
returns-in-Err-clause-answer c =
    let a = c.args in
    let auc = auc_of a.auc in
    c.refused.ensures a.batch.now
    ∙ when_refused auc a.count a.rands.now a.batch.now true (from auc) (outcome auc) _ _ c.in-Err.is c.check.ensures
    ∙ order_is auc a.count a.rands.now a.batch.now

pub returns-in-Ok-clause-answer : goal.returns-in-Ok-clause-answer
returns-in-Ok-clause-answer c =
    let a = c.args in
    let auc = auc_of a.auc in
    c.generate.ensures
    ∙ when_asked auc a.count a.rands.now a.batch.now true (from auc) (outcome auc) _ _ c.in-Ok.is c.check.ensures
    ∙ order_is auc a.count a.rands.now a.batch.now
