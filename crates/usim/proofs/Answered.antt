-- From the answer for a verdict to the whole answer. Assumes nothing.
use Prim.Native.Nat.{ℕ}
use mathlib.Core.Path.{◌≡◌, refl, sym, ◌∙◌}
use native.Mathlib.Omega.{arith}
use Rattle.octets.specs.Octets.{Octets, zeros}
use Rattle.functions.specs.Sets.{sets}
use Rattle.aka.specs.Layout.{auts_size}
use Rattle.aka.specs.Usim.{Usim, Verdict, refused, unchanged, answer_with, challenge}
use Rattle.aka.specs.Editions.{editions}
use Rattle.aka.proofs.Verdicts.{answer_of_lem}
use Rattle.usim_record.specs.declared.Answer.{Answer}
use Rattle.usim_record.specs.declared.Verdict as code
use Rattle.usim_record.specs.declared.Verdict.TheVariants.{Refused}
use Rattle.usim_record.specs.Views.{verdict_of, answer_of, sqn_given, sqn_due, SqnTold}
use Rattle.usim.specs.Judging.{AnswerFor}

module _ (usim : Usim) (rand autn : Octets) (r : Answer) where
  -- a verdict that gives no SQN, and changes nothing
  pub unchanged_for : (v : code.Verdict) (auts : Octets) → sqn_given v ≡ 0 → sqn_due (verdict_of v) usim rand autn ≡ 0
      → answer_with editions sets usim rand autn (verdict_of v) ≡ unchanged (verdict_of v) usim auts
      → (answer_of r ≡ unchanged (verdict_of v) usim auts) × (r.verdict ≡ v) → AnswerFor usim rand autn (verdict_of v) r
  unchanged_for v auts none undue with_it is = record {
    answer = is.0 ∙ sym with_it;
    sqn = rw is.1 (none ∙ sym undue, rw none (omega arith));
  }

  abbrev Whole : Type 0
  Whole = (answer_of r ≡ challenge editions sets usim rand autn) × SqnTold r.verdict usim rand autn

  pub answered : (v : Verdict) → (challenge editions sets usim rand autn).verdict ≡ v → AnswerFor usim rand autn v r → Whole
  answered v e a = (a.answer ∙ sym (answer_of_lem editions sets usim rand autn v e), a.sqn)

  pub refusal : (n : ℕ) → (challenge editions sets usim rand autn).verdict ≡ refused n
      → (answer_of r ≡ unchanged (refused n) usim (zeros auts_size)) × (r.verdict ≡ Refused n) → Whole
  unfolding answer_with
  refusal n e is = answered (refused n) e (unchanged_for (Refused n) (zeros auts_size) refl refl refl is)
