-- `resume` is refusal 5, else the batch from SEQ_HE, kept or reset.
use Rattle.std.proofs.Common.{ℕ, Bool, false, cond, ◌≡◌, refl, sym, ap, ap₂, ◌∙◌}
use Rattle.octets.specs.Octets.{Octets}
use Rattle.functions.specs.Sets.{sets}
use Rattle.aka.specs.Sequence.{width_of}
use Rattle.aka.specs.Editions.{editions}
use Rattle.aka.specs.Auc.{Auc, AucAnswer, kept, reset, refused, unless_past, answer_with, resync_from, auts_outcome}
use Rattle.aka.proofs.Outcomes.{auts_five, auts_on, answer_refused}
use Rattle.auc_record.specs.Views.{auc_of}
use Rattle.resynchronisation.specs.declared.Ruling.{Ruling}
use Rattle.resynchronisation.specs.declared.Ruling.TheVariants.{Kept, Reset}
use Rattle.resynchronisation.specs.Rulings.{Follows, kept_in, from_in}
use Rattle.auc.proofs.resume.Goals as goal

module _ (auc : Auc) (rand auts rands buffer : Octets) (n : ℕ) where
  abbrev from : ℕ
  from = resync_from editions sets auc rand auts n

  -- the answer with a batch that follows `x`, SEQ_HE being kept or not
  abbrev told : (x : ℕ) (keeps : Bool) → AucAnswer
  told x keeps = answer_with editions sets auc x rands n buffer (unless_past editions sets auc x n (cond keeps kept reset))

  follows : (r : Ruling) → Follows (width_of editions auc.edition) (sets.under auc.keys) rand auts auc.seqhe n false r
      → told (from_in r) (kept_in r) ≡ answer_with editions sets auc from rands n buffer (auts_outcome editions sets auc rand auts n)
  follows r ruled =
      ap₂ told ruled.from ruled.kept
      ∙ ap (answer_with editions sets auc from rands n buffer) (sym (auts_on editions sets auc rand auts n ruled.refused))

pub returns-in-Ok-Kept : goal.returns-in-Ok-Kept
returns-in-Ok-Kept c =
    let a = c.args in
    let ruled = rw (c.in-Ok-Kept.field-0-is, c.new-keys.ensures) at c.in-Ok-Kept.ensures in
    c.generate.ensures ∙ follows (auc_of a.auc) a.rand a.auts a.rands.octets.now a.batch.now a.rands.n (Kept c.in-Ok-Kept.from) ruled

pub returns-in-Ok-Reset : goal.returns-in-Ok-Reset
returns-in-Ok-Reset c =
    let a = c.args in
    let ruled = rw (c.in-Ok-Reset.field-0-is, c.new-keys.ensures) at c.in-Ok-Reset.ensures in
    c.generate-in-Ok-Reset.ensures
    ∙ follows (auc_of a.auc) a.rand a.auts a.rands.octets.now a.batch.now a.rands.n (Reset c.in-Ok-Reset.from) ruled

pub returns-in-Err : goal.returns-in-Err
returns-in-Err c =
    let a = c.args in
    let auc = auc_of a.auc in
    let from = resync_from editions sets auc a.rand a.auts a.rands.n in
    let told = rw (c.into.ensures, c.in-Err.ensures.1) at (c.refused.ensures a.batch.now) in
    let five = auts_five editions sets auc a.rand a.auts a.rands.n (rw c.new-keys.ensures at c.in-Err.ensures.0.refused) in
    let none = answer_refused editions sets auc from a.rands.octets.now a.rands.n a.batch.now (refused 5) refl in
    told ∙ sym (ap (answer_with editions sets auc from a.rands.octets.now a.rands.n a.batch.now) five ∙ none)
