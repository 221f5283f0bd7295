-- `check` is the lowest of refusals 1 to 4 that applies.
use mathlib.Core.Bool.{and-eq-true_iff}
use Rattle.std.proofs.Common.{length, refl, sym, ◌∙◌}
use Rattle.functions.specs.Sets.{sets}
use Rattle.aka.specs.Editions.{editions}
use Rattle.aka.proofs.Outcomes.{refusal_1, refusal_2, refusal_3, refusal_4, not_refused, lent_iff}
use Rattle.auc_record.specs.Views.{auc_of}
use Rattle.auc_record.proofs.check.Goals as goal

pub returns-then-not-is_valid : goal.returns-then-not-is_valid
returns-then-not-is_valid c = rw c.into.ensures (
  λ rest. refusal_1 editions sets (auc_of c.args.auc) c.args.count _ _ c.args.rands.now rest (sym c.if-not-is_valid.ensures),
  refl,
)

pub returns-then-count-gt-MOST_VECTORS : goal.returns-then-count-gt-MOST_VECTORS
returns-then-count-gt-MOST_VECTORS c = rw c.into-then-count-gt-MOST_VECTORS.ensures (
  λ rest. refusal_2 editions sets (auc_of c.args.auc) c.args.count _ _ c.args.rands.now rest (sym c.if-not-is_valid.ensures)
      c.if-count-gt-MOST_VECTORS.true,
  refl,
)

pub returns-then-not-lent_for : goal.returns-then-not-lent_for
returns-then-not-lent_for c =
    let short = rw c.count_of-n.ensures at (sym c.lent_for.ensures ∙ c.if-not-lent_for.true) in
    rw c.into-then-not-lent_for.ensures (
      λ rest. refusal_3 editions sets (auc_of c.args.auc) c.args.count _ _ c.args.rands.now rest (sym c.if-not-is_valid.ensures)
          c.if-count-gt-MOST_VECTORS.false short,
      refl,
    )

pub equal_pair-requires : goal.equal_pair-requires
equal_pair-requires c =
    let lent = sym c.lent_for.ensures ∙ c.if-not-lent_for.false in
    ((lent_iff c.count_of-n.result (length c.args.rands.now) c.args.size).0 ((and-eq-true_iff _ _).0 lent).0).0

pub returns-in-Some : goal.returns-in-Some
returns-in-Some c =
    let lent = rw c.count_of-n.ensures at (sym c.lent_for.ensures ∙ c.if-not-lent_for.false) in
    let equal = rw c.count_of-n.ensures at c.in-Some.ensures in (
      λ rest. refusal_4 editions sets (auc_of c.args.auc) c.args.count _ _ c.args.rands.now rest (sym c.if-not-is_valid.ensures)
          c.if-count-gt-MOST_VECTORS.false _ _ lent (sym equal),
      refl,
    )

pub returns-in-None : goal.returns-in-None
returns-in-None c =
    let lent = rw c.count_of-n.ensures at (sym c.lent_for.ensures ∙ c.if-not-lent_for.false) in
    let unequal = rw c.count_of-n.ensures at c.in-None.ensures in (
      c.count_of-n.ensures,
      λ rest. not_refused editions sets (auc_of c.args.auc) c.args.count _ _ c.args.rands.now rest (sym c.if-not-is_valid.ensures)
          c.if-count-gt-MOST_VECTORS.false lent (sym unequal),
    )
