-- The laws of an order, proved. Assumes nothing.
use Prim.Native.Nat.{ℕ, ◌+◌, ◌*◌, ◌≤◌, ◌<◌}
use mathlib.Core.Bool.{Bool, true}
use mathlib.Core.Path.{◌≡◌, sym, ap, ◌∙◌, subst}
use lib.ListN.{length}
use Rattle.octets.specs.Octets.{Octets}
use Rattle.aka.specs.Layout.{rand_size}
use Rattle.aka.specs.Functions.{Family}
use Rattle.aka.specs.Sequence.{Scheme, width_of, limit}
use Rattle.aka.specs.Auc.{Auc, AucAnswer, Outcome, given, refused, refusal_of}
use Rattle.aka.specs.Auc.{order_count, lent_for}
use Rattle.aka.specs.Auc.{unless_past, answer_with, order_outcome, order}
use Rattle.aka.specs.AucLaws.{BatchSized, Asking, Sound, Generates, OrderLaws}
use Rattle.aka.proofs.Outcomes.{lent_iff, not_refused}
use Rattle.aka.proofs.Outcomes.{passes, passes_on, order_given, order_past}
use Rattle.aka.proofs.AucAnswers.{generates, refuses, behind_six, outcome_is, stays_with, valid_with}

module _ (scheme : Scheme) (family : Family) (auc : Auc) (count₀ : ℕ) (rands buffer : Octets) where
  abbrev w : ℕ
  w = width_of scheme auc.edition

  abbrev N : ℕ
  N = order_count count₀

  abbrev ordered : AucAnswer
  ordered = order scheme family auc count₀ rands buffer

  abbrev outcome₁ : Outcome
  outcome₁ = order_outcome scheme family auc count₀ rands buffer

  abbrev Asked : Type 0
  Asked = Asking scheme family auc count₀ N rands buffer

  abbrev Sizes : Type 0
  Sizes = BatchSized scheme family auc count₀ N rands buffer

  abbrev lent : Bool
  lent = lent_for N (length rands) (length buffer)

  order_is : ordered.outcome ≡ outcome₁
  unfolding order
  order_is = outcome_is scheme family auc count₀ N rands buffer auc.seqhe outcome₁

  -- where a batch is given, refusals 1 to 4 do not apply, and its last SEQ is within the limit
  pub order_lent : refusal_of outcome₁ ≡ 0 → length rands ≡ rand_size * N
  unfolding order_outcome
  order_lent e =
      let rest = unless_past scheme family auc auc.seqhe N given in
      ((lent_iff N (length rands) (length buffer)).0 (passes scheme family auc count₀ N lent rands rest e).named).0

  pub order_room : refusal_of outcome₁ ≡ 0 → auc.seqhe + N ≤ limit w
  unfolding order_outcome
  order_room e =
      let rest = unless_past scheme family auc auc.seqhe N given in
      let on = passes_on scheme family auc count₀ N lent rands (passes scheme family auc count₀ N lent rands rest e) rest in
      (behind_six scheme family auc count₀ N rands buffer auc.seqhe given (ap refusal_of (sym on) ∙ e)).1

  order_generates : Sound scheme family auc count₀ N rands buffer → ordered.outcome ≡ given
      → Generates scheme family auc count₀ N rands buffer auc.seqhe ordered
  unfolding order answer_with
  order_generates s e =
      let is = sym order_is ∙ e in
      subst (Generates scheme family auc count₀ N rands buffer auc.seqhe)
      (sym (ap (answer_with scheme family auc auc.seqhe rands N buffer) is))
      (generates scheme family auc count₀ N rands buffer s auc.seqhe (order_room (ap refusal_of is)) given)

  true_sized : lent ≡ true → Sizes
  true_sized e = let both = (lent_iff N (length rands) (length buffer)).0 e in record { rands_size_lem = both.0; buffer_size = both.1 }

  sized_true : Sizes → lent ≡ true
  sized_true l = (lent_iff N (length rands) (length buffer)).1 (l.rands_size_lem, l.buffer_size)

  past_six : Asked → Sizes → limit w < auc.seqhe + N → ordered.outcome ≡ refused 6
  past_six a l past =
      order_past scheme family auc count₀ rands buffer a.valid a.count_small l.rands_size_lem l.buffer_size a.unequal_rands past

  pub order_laws : OrderLaws scheme family auc count₀ rands buffer
  unfolding order order_outcome
  order_laws = record {
    refuses = refuses scheme family auc count₀ N rands buffer Sizes lent _ ordered order_is sized_true true_sized;
    refusal6 = past_six;
    number6 = λ a l past. ap refusal_of (past_six a l past);
    not_refused = λ a l room. ap (λ (x : AucAnswer). x.outcome)
        (order_given scheme family auc count₀ rands buffer a.valid a.count_small l.rands_size_lem l.buffer_size a.unequal_rands
        room);
    generates = order_generates;
    stays = stays_with scheme family auc count₀ N rands buffer auc.seqhe outcome₁;
    stays_valid = λ v. valid_with scheme family auc count₀ N rands buffer auc.seqhe v outcome₁ order_room;
  }
