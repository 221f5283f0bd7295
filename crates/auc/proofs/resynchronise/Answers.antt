-- `resynchronise` is the whole answer: the lowest refusal that applies, else the batch, SEQ_HE kept or reset.
use Rattle.std.proofs.Common.{ℕ, Bool, Result, ◌≡◌, length, sym, ap₂, ◌∙◌, subst, arith}
use Rattle.octets.specs.Octets.{Octets}
use Rattle.functions.specs.Sets.{sets}
use Rattle.aka.specs.Editions.{editions}
use Rattle.aka.specs.Auc.{Auc, Outcome, count_of, default_count, lent_auts, resync_from, auts_outcome, answer_with}
use Rattle.aka.proofs.Outcomes.{lent_auts_iff}
use Rattle.auc_record.specs.Views.{auc_of}
use Rattle.auc_record.specs.declared.Outcome as code
use Rattle.auc_record.specs.Checks.{first_refusals, Found}
use Rattle.auc.proofs.Answers.{asked, when_refused, when_asked, resync_is}
use Rattle.auc.proofs.resynchronise.Goals as goal

-- the batch follows SEQ_HE, kept or reset; the outcome behind refusals 1 to 4; both by the count that results
abbrev from : Auc → (rand auts : Octets) → (m : ℕ) → ℕ
from auc rand auts m = resync_from editions sets auc rand auts m

abbrev outcome : Auc → (rand auts : Octets) → (m : ℕ) → Outcome
outcome auc rand auts m = auts_outcome editions sets auc rand auts m

-- what the check found, by the lengths of RAND and AUTS
found : (auc : Auc) (count : ℕ) (rands buffer : Octets) (r : Result ℕ code.Outcome) (lent lent' : Bool) → lent ≡ lent'
    → Found (first_refusals auc default_count count rands (length buffer) lent) (count_of default_count count) r
    → Found (first_refusals auc default_count count rands (length buffer) lent') (count_of default_count count) r
found auc count rands buffer r lent lent' e f =
    subst (λ (b : Bool). Found (first_refusals auc default_count count rands (length buffer) b) (count_of default_count count) r) e f

pub array-requires : goal.array-requires
array-requires c =
    let a = c.args in
    let r = asked (auc_of a.auc) a.count a.rands.now a.batch.now c.auts_fits-lent.result _ _ c.in-Ok.is c.check.ensures in
    (omega arith, ((lent_auts_iff (length a.rand.now) (length a.auts.now)).0 (sym c.auts_fits-lent.ensures ∙ r.rest)).0)

pub array-requires-in-Ok : goal.array-requires-in-Ok
array-requires-in-Ok c =
    let a = c.args in
    let r = asked (auc_of a.auc) a.count a.rands.now a.batch.now c.auts_fits-lent.result _ _ c.in-Ok.is c.check.ensures in
    (omega arith, ((lent_auts_iff (length a.rand.now) (length a.auts.now)).0 (sym c.auts_fits-lent.ensures ∙ r.rest)).1)

pub invariant_of-rands : goal.invariant_of-rands
invariant_of-rands c =
    let a = c.args in
    let r = asked (auc_of a.auc) a.count a.rands.now a.batch.now c.auts_fits-lent.result _ _ c.in-Ok.is c.check.ensures in
    record { few = r.few; whole = r.rands_size_lem }

pub resume-requires-clause-room : goal.resume-requires-clause-room
resume-requires-clause-room c =
    let a = c.args in
    let r = asked (auc_of a.auc) a.count a.rands.now a.batch.now c.auts_fits-lent.result _ _ c.in-Ok.is c.check.ensures in
    r.seqhe

pub resume-requires-clause-lent : goal.resume-requires-clause-lent
resume-requires-clause-lent c =
    let a = c.args in
    let r = asked (auc_of a.auc) a.count a.rands.now a.batch.now c.auts_fits-lent.result _ _ c.in-Ok.is c.check.ensures in
    r.buffer_size

pub returns-in-Err-clause-answer : goal.returns-in-Err-clause-answer
returns-in-Err-clause-answer c =
    let a = c.args in
    let auc = auc_of a.auc in
    let lent = lent_auts (length a.rand.now) (length a.auts.now) in
    let was = found auc a.count a.rands.now a.batch.now _ _ lent c.auts_fits-lent.ensures c.check.ensures in
    c.refused.ensures a.batch.now
    ∙ when_refused auc a.count a.rands.now a.batch.now lent (from auc a.rand.now a.auts.now) (outcome auc a.rand.now a.auts.now) _ _
    c.in-Err.is was
    ∙ resync_is auc a.count a.rands.now a.batch.now a.rand.now a.auts.now

pub returns-in-Ok-clause-answer : goal.returns-in-Ok-clause-answer
returns-in-Ok-clause-answer c =
    let a = c.args in
    let auc = auc_of a.auc in
    let m = c.in-Ok.n in
    let lent = lent_auts (length a.rand.now) (length a.auts.now) in
    let was = found auc a.count a.rands.now a.batch.now _ _ lent c.auts_fits-lent.ensures c.check.ensures in
    c.resume.ensures
    ∙ ap₂ (λ (x y : Octets). answer_with editions sets auc (from auc x y m) a.rands.now m a.batch.now (outcome auc x y m))
    c.array.ensures c.array-in-Ok.ensures
    ∙ when_asked auc a.count a.rands.now a.batch.now lent (from auc a.rand.now a.auts.now) (outcome auc a.rand.now a.auts.now) _ _
    c.in-Ok.is was
    ∙ resync_is auc a.count a.rands.now a.batch.now a.rand.now a.auts.now
