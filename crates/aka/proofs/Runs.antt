-- Laws of runs: places in a list, and what a call of the centre gives. Assumes nothing.
use Prim.Native.Nat.{ℕ, zero, suc, ◌+◌, ◌*◌, ◌≤◌, ◌<◌}
use mathlib.Core.Bool.{Bool, true, false, cond}
use mathlib.Core.List.{List, [], ◌∷◌, ◌++◌}
use mathlib.Core.Logic.{◌⊎◌, inl, inr, ⊎_elim}
use mathlib.Core.Path.{◌≡◌, refl, sym, ap, ◌∙◌, subst}
use native.Mathlib.Omega.{arith}
use borrow.Author.Tests.{eqb-true}
use lib.Dec.{eqb}
use lib.ListN.{length, length-append}
use Rattle.octets.specs.Octets.{Octets}
use Rattle.aka.specs.Layout.{Vector, rand_size, vector_at}
use Rattle.aka.specs.Functions.{Family}
use Rattle.aka.specs.Sequence.{Scheme, width_of, limit}
use Rattle.aka.specs.Auc.{Auc, AucAnswer, Outcome, kept, reset, refusal_of, in_range, seq_ms_in, order_count, resync_count}
use Rattle.aka.specs.Auc.{given_with, answer_with, order_outcome, order, resync_from, resync_outcome, resync}
use Rattle.aka.specs.Runs.{At, vectors_in}
use Rattle.aka.proofs.Outcomes.{answer_given, answer_refused}
use Rattle.aka.proofs.AucAnswers.{outcome_is}
use Rattle.aka.proofs.OrderLaws.{order_lent, order_room}
use Rattle.aka.proofs.ResyncLaws.{given_by_range, resync_lent}

-- ---- places in a list

pub at_inside : {A : Type 0} (l : List A) (g : ℕ) (x : A) → At l g x → g < length l
at_inside [] g x h = absurd h
at_inside (y ∷ l) zero x h = omega arith
at_inside (y ∷ l) (suc g) x h = omega (arith, at_inside l g x h)

pub at_front : {A : Type 0} (a b : List A) (g : ℕ) (x : A) → At a g x → At (a ++ b) g x
at_front [] b g x h = absurd h
at_front (y ∷ a) b zero x h = h
at_front (y ∷ a) b (suc g) x h = at_front a b g x h

-- a place of two lists one behind the other is one of the first or of the second
pub at_append : {A : Type 0} (a b : List A) (g : ℕ) (x : A) → At (a ++ b) g x
    → At a g x ⊎ ((k : ℕ) × (g ≡ length a + k) × At b k x)
at_append [] b g x h = inr (g, omega arith, h)
at_append (y ∷ a) b zero x h = inl h
at_append (y ∷ a) b (suc g) x h = ⊎_elim
    (λ (l : At a g x). inl l)
    (λ (r : (k : ℕ) × (g ≡ length a + k) × At b k x). inr (r.0, omega (arith, r.1), r.2))
    (at_append a b g x h)

pub length_vectors : (n : ℕ) (batch : Octets) → length (vectors_in n batch) ≡ n
unfolding vectors_in
length_vectors zero batch = refl
length_vectors (suc n) batch = length-append (vectors_in n batch) (vector_at batch n ∷ []) ∙ omega (arith, length_vectors n batch)

pub at_vectors : (n : ℕ) (batch : Octets) (k : ℕ) (v : Vector) → At (vectors_in n batch) k v → (k < n) × (vector_at batch k ≡ v)
unfolding vectors_in
at_vectors zero batch k v h = absurd h
at_vectors (suc n) batch k v h = ⊎_elim
    (λ (l : At (vectors_in n batch) k v). let ih = at_vectors n batch k v l in (omega (arith, ih.0), ih.1))
    (λ (r : (j : ℕ) × (k ≡ length (vectors_in n batch) + j) × At (vector_at batch n ∷ []) j v). last r.0 r.1 r.2)
    (at_append (vectors_in n batch) (vector_at batch n ∷ []) k v h)
  where
    last : (j : ℕ) → k ≡ length (vectors_in n batch) + j → At (vector_at batch n ∷ []) j v → (k < suc n) × (vector_at batch k ≡ v)
    last zero e a =
        let here : k ≡ n = omega (arith, e, length_vectors n batch) in
        (omega arith, ap (vector_at batch) here ∙ a)
    last (suc j) e a = absurd a

-- ---- a call of the centre that does not reset SEQ_HE gives nothing, or a batch that follows SEQ_HE

module _ (scheme : Scheme) (family : Family) (auc : Auc) where
  pub record Stayed (answer : AucAnswer) : Type 0 where
    pub none : answer.n ≡ 0
    pub same : answer.auc ≡ auc

  pub record Gave (answer : AucAnswer) : Type 0 where
    pub n : ℕ
    pub rands : Octets
    pub outcome : Outcome
    pub is : answer ≡ given_with scheme family auc auc.seqhe rands n outcome
    pub size : length rands ≡ rand_size * n
    pub room : auc.seqhe + n ≤ limit (width_of scheme auc.edition)

  by_outcome : (rands : Octets) (n : ℕ) (buffer : Octets) (o : Outcome)
      → (refusal_of o ≡ 0 → (length rands ≡ rand_size * n) × (auc.seqhe + n ≤ limit (width_of scheme auc.edition)))
      → Stayed (answer_with scheme family auc auc.seqhe rands n buffer o)
      ⊎ Gave (answer_with scheme family auc auc.seqhe rands n buffer o)
  by_outcome rands n buffer o h = go (eqb (refusal_of o) 0) refl
    where
      go : (b : Bool) → eqb (refusal_of o) 0 ≡ b
          → Stayed (answer_with scheme family auc auc.seqhe rands n buffer o)
          ⊎ Gave (answer_with scheme family auc auc.seqhe rands n buffer o)
      go true e =
          let none = eqb-true (refusal_of o) 0 e in
          inr (record {
            n = n;
            rands = rands;
            outcome = o;
            is = answer_given scheme family auc auc.seqhe rands n buffer o none;
            size = (h none).0;
            room = (h none).1;
          })
      go false e =
          let is = answer_refused scheme family auc auc.seqhe rands n buffer o e in
          inl (record { none = ap (λ (a : AucAnswer). a.n) is; same = ap (λ (a : AucAnswer). a.auc) is })

  pub order_step : (count : ℕ) (rands buffer : Octets)
      → Stayed (order scheme family auc count rands buffer) ⊎ Gave (order scheme family auc count rands buffer)
  unfolding order
  order_step count rands buffer =
      by_outcome rands (order_count count) buffer (order_outcome scheme family auc count rands buffer)
      (λ e. (order_lent scheme family auc count rands buffer e, order_room scheme family auc count rands buffer e))

  pub resync_step : (count : ℕ) (rands buffer rand auts : Octets)
      → ((resync scheme family auc count rands buffer rand auts).outcome ≡ reset → ⊥)
      → Stayed (resync scheme family auc count rands buffer rand auts) ⊎ Gave (resync scheme family auc count rands buffer rand auts)
  unfolding resync
  resync_step count rands buffer rand auts never = go (eqb (refusal_of outcome) 0) refl
    where
      n : ℕ
      n = resync_count count

      ms : ℕ
      ms = seq_ms_in (width_of scheme auc.edition) (family.under auc.keys) rand auts

      outcome : Outcome
      outcome = resync_outcome scheme family auc count rands buffer rand auts

      Goal : AucAnswer → Type 0
      Goal a = Stayed a ⊎ Gave a

      -- not reset, so in range, and the batch follows SEQ_HE
      in_range_lem : refusal_of outcome ≡ 0 → (b : Bool) → in_range auc.seqhe ms n ≡ b → cond b auc.seqhe ms ≡ auc.seqhe
      in_range_lem e true q = refl
      in_range_lem e false q =
          let o = (given_by_range scheme family auc count rands buffer rand auts e).0 in
          absurd (never (
          outcome_is scheme family auc count n rands buffer (resync_from scheme family auc rand auts n) outcome
          ∙ o ∙ ap (λ (b : Bool). cond b kept reset) q
          ))

      go : (b : Bool) → eqb (refusal_of outcome) 0 ≡ b → Goal (resync scheme family auc count rands buffer rand auts)
      go true e =
          let none = eqb-true (refusal_of outcome) 0 e in
          let from = in_range_lem none (in_range auc.seqhe ms n) refl in
          subst (λ (x : ℕ). Goal (answer_with scheme family auc x rands n buffer outcome)) (sym from)
          (by_outcome rands n buffer outcome
          (λ q. (
            resync_lent scheme family auc count rands buffer rand auts q,
            subst (λ (x : ℕ). x + n ≤ limit (width_of scheme auc.edition)) from
                (given_by_range scheme family auc count rands buffer rand auts q).1,
          )))
      go false e =
          let is = answer_refused scheme family auc (resync_from scheme family auc rand auts n) rands n buffer outcome e in
          inl (record { none = ap (λ (a : AucAnswer). a.n) is; same = ap (λ (a : AucAnswer). a.auc) is })
