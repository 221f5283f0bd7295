-- From what the check of refusals 1 to 4 found to the whole answer. Assumes nothing.
use Prim.Native.Nat.{ℕ, ◌*◌, ◌≤◌}
use mathlib.Core.Bool.{Bool, true, ◌&&◌, and-true, and-eq-true_iff}
use mathlib.Core.Path.{◌≡◌, refl, sym, ap, subst, ◌∙◌}
use native.Mathlib.Omega.{arith}
use lib.ListN.{length}
use Rattle.std.specs.Prelude.{Result, Ok, Err}
use Rattle.octets.specs.Octets.{Octets}
use Rattle.functions.specs.Sets.{sets}
use Rattle.aka.specs.Layout.{rand_size, vector_size, most_vectors}
use Rattle.aka.specs.Sequence.{width_of, limit}
use Rattle.aka.specs.Editions.{editions}
use Rattle.aka.specs.Auc as aka
use Rattle.aka.specs.Auc.{order_outcome, order, resync_outcome, resync}
use Rattle.aka.proofs.Batches.{count_le}
use Rattle.aka.proofs.Outcomes.{valid_iff, lent_iff, passes, answer_refused}
use Rattle.auc_record.specs.declared.Outcome.{Outcome}
use Rattle.auc_record.specs.Views.{outcome_of}
use Rattle.auc_record.specs.Checks.{first_refusals, Found}

-- `lent`: whatever is lent besides has its length
module _ (auc : aka.Auc) (count : ℕ) (rands buffer : Octets) (lent : Bool) where
  abbrev n : ℕ
  n = aka.count_of aka.default_count count

  -- refusals 1 to 4, before the outcome `rest`
  abbrev refusals : aka.Outcome → aka.Outcome
  refusals rest = first_refusals auc aka.default_count count rands (length buffer) lent rest

  abbrev Finds : Result ℕ Outcome → Type 0
  Finds r = Found refusals n r

  -- where none of them applies
  pub record Asked (m : ℕ) : Type 0 where
    pub few : m ≤ most_vectors
    pub seqhe : auc.seqhe ≤ limit (width_of editions auc.edition)
    pub rands_size_lem : length rands ≡ rand_size * m
    pub buffer_size : length buffer ≡ vector_size * m
    pub rest : lent ≡ true

  pub asked : (r : Result ℕ Outcome) (m : ℕ) → r ≡ Ok m → Finds r → Asked m
  asked r m e found =
      let f : Finds (Ok m) = subst Finds e found in
      let sizes = aka.lent_for n (length rands) (length buffer) in
      let p = passes editions sets auc count n (sizes && lent) rands aka.given (ap aka.refusal_of (f.1 aka.given)) in
      let valid = (valid_iff editions sets auc).0 p.valid in
      let both = (and-eq-true_iff sizes lent).0 p.named in
      let long = (lent_iff n (length rands) (length buffer)).0 both.0 in
      record {
        few = rw f.0 (count_le aka.default_count count (omega arith) p.small);
        seqhe = valid.1;
        rands_size_lem = rw f.0 long.0;
        buffer_size = rw f.0 long.1;
        rest = both.1;
      }

  -- the answer where the batch follows `from`, and `rest` is the outcome behind refusals 1 to 4, both by the count that results
  module _ (from : ℕ → ℕ) (rest : ℕ → aka.Outcome) where
    abbrev with : (k : ℕ) → aka.Outcome → aka.AucAnswer
    with k o = aka.answer_with editions sets auc (from k) rands k buffer o

    pub when_refused : (r : Result ℕ Outcome) (o : Outcome) → r ≡ Err o → Finds r
        → aka.refused_with editions sets auc buffer (outcome_of o) ≡ with n (refusals (rest n))
    when_refused r o e found =
        let f : Finds (Err o) = subst Finds e found in
        sym (ap (with n) (f.0 (rest n)) ∙ answer_refused editions sets auc (from n) rands n buffer (outcome_of o) f.1)

    pub when_asked : (r : Result ℕ Outcome) (m : ℕ) → r ≡ Ok m → Finds r → with m (rest m) ≡ with n (refusals (rest n))
    when_asked r m e found =
        let f : Finds (Ok m) = subst Finds e found in
        ap (λ (k : ℕ). with k (rest k)) f.0 ∙ ap (with n) (sym (f.1 (rest n)))

-- ---- the whole answers

pub order_is : (auc : aka.Auc) (count : ℕ) (rands buffer : Octets) →
    let n = aka.order_count count in
    aka.answer_with editions sets auc auc.seqhe rands n buffer
    (refusals auc count rands buffer true (aka.unless_past editions sets auc auc.seqhe n aka.given))
    ≡ order editions sets auc count rands buffer
unfolding order order_outcome
order_is auc count rands buffer = rw (and-true (aka.lent_for (aka.order_count count) (length rands) (length buffer))) refl

pub resync_is : (auc : aka.Auc) (count : ℕ) (rands buffer rand auts : Octets) →
    let n = aka.resync_count count in
    aka.answer_with editions sets auc (aka.resync_from editions sets auc rand auts n) rands n buffer
    (refusals auc count rands buffer (aka.lent_auts (length rand) (length auts)) (aka.auts_outcome editions sets auc rand auts n))
    ≡ resync editions sets auc count rands buffer rand auts
unfolding resync resync_outcome
resync_is auc count rands buffer rand auts = refl
