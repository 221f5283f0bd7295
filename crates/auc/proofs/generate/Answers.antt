-- `generate` is refusal 6, else the batch and the record after it.
use Rattle.std.proofs.Common.{ℕ, ◌+◌, ◌<◌, ◌≤◌, ◌≡◌, refl, sym, ap, ap₂, ◌∙◌, subst}
use Rattle.octets.specs.Octets.{Octets}
use Rattle.functions.specs.Sets.{sets}
use Rattle.aka.specs.Functions.{Keys}
use Rattle.aka.specs.Editions.{editions}
use Rattle.aka.specs.Auc.{Auc, AucAnswer, Outcome, refused, batch_from, answer_with}
use Rattle.aka.proofs.Outcomes.{is_past, not_past, answer_given, answer_refused}
use Rattle.auc_record.specs.Views.{auc_of, outcome_of}
use Rattle.auc.proofs.generate.Goals as goal

abbrev told : Outcome → (n : ℕ) → Auc → (batch : Octets) → AucAnswer
told outcome n next batch = record { outcome = outcome; n = n; auc = next; batch = batch }

-- a batch does not depend on SEQ_HE
same_batch : (edition : ℕ) (keys : Keys) (amf : Octets) (he he' next from : ℕ) (rands : Octets) (n : ℕ)
    → batch_from editions sets (record { edition = edition; keys = keys; amf = amf; seqhe = he; next = next }) from rands n
    ≡ batch_from editions sets (record { edition = edition; keys = keys; amf = amf; seqhe = he'; next = next }) from rands n
unfolding batch_from
same_batch edition keys amf he he' next from rands n = refl

pub returns-then-m-from : goal.returns-then-m-from
returns-then-m-from c =
    let a = c.args in
    let auc = auc_of a.auc in
    let beyond = subst (λ (most : ℕ). most < a.from + a.rands.n) c.row-m.ensures.limit c.if-m-from.true in
    let past = is_past editions sets auc a.from a.rands.n (outcome_of a.outcome) beyond in
    let none = answer_refused editions sets auc a.from a.rands.octets.now a.rands.n a.batch.now (refused 6) refl in
    let told = rw c.into.ensures at (c.refused.ensures a.batch.now) in
    told ∙ sym (ap (answer_with editions sets auc a.from a.rands.octets.now a.rands.n a.batch.now) past ∙ none)

pub returns : goal.returns
returns c =
    let a = c.args in
    let auc = auc_of a.auc in
    let outcome = outcome_of a.outcome in
    let inside = subst (λ (most : ℕ). a.from + a.rands.n ≤ most) c.row-m.ensures.limit c.if-m-from.false in
    let within = not_past editions sets auc a.from a.rands.n outcome inside in
    let given = answer_given editions sets auc a.from a.rands.octets.now a.rands.n a.batch.now outcome c.requires.given in
    let batch = same_batch auc.edition auc.keys auc.amf a.from auc.seqhe auc.next a.from a.rands.octets.now a.rands.n in
    ap₂ (told outcome a.rands.n) c.after_batch.ensures ((rw c.requires.made at c.fill.ensures) ∙ batch)
    ∙ sym (ap (answer_with editions sets auc a.from a.rands.octets.now a.rands.n a.batch.now) within ∙ given)
