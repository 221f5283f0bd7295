-- The laws of a resynchronisation, proved. Assumes nothing.
use Prim.Native.Nat.{ℕ, ◌+◌, ◌*◌, ◌^◌, ◌≤◌, ◌<◌}
use mathlib.Core.Bool.{Bool, true, false, ◌&&◌, not, cond, and-eq-true_iff}
use mathlib.Core.Logic.{⊎_elim}
use mathlib.Core.Path.{◌≡◌, refl, sym, ap, ap₂, ◌∙◌, subst}
use native.Mathlib.Omega.{arith}
use lib.ListN.{length}
use Rattle.octets.specs.Octets.{Octets, encode}
use Rattle.aka.specs.Layout.{rand_size, sqn_size, write_auts}
use Rattle.aka.specs.Functions.{Functions, Family, dummy_amf}
use Rattle.aka.specs.Sequence.{Scheme, width_of, sqn_bits, limit, seq_of}
use Rattle.aka.specs.Usim.{make_auts}
use Rattle.aka.specs.Auc.{Auc, AucAnswer, Outcome, given, kept, reset, refused, refusal_of}
use Rattle.aka.specs.Auc.{resync_count, lent_for, lent_auts, in_range, mac_s_right, seq_ms_in}
use Rattle.aka.specs.Auc.{unless_past, answer_with}
use Rattle.aka.specs.Auc.{resync_from, auts_outcome, resync_outcome, resync}
use Rattle.aka.specs.UsimLaws.{auts_of}
use Rattle.aka.specs.AucLaws.{ResyncSized, Asking, Sound, Generates, Past, ResyncLaws}
use Rattle.aka.proofs.Tokens.{length_sqn, auts_mac, auts_seq}
use Rattle.aka.proofs.Outcomes.{lent_iff, lent_auts_iff, valid_iff, not_refused}
use Rattle.aka.proofs.Outcomes.{passes, passes_on, is_past, not_past, answer_given}
use Rattle.aka.proofs.AucAnswers.{generates, refuses, behind_six, outcome_is, stays_with, valid_with}

is_kept : (b : Bool) → cond b kept reset ≡ kept → b ≡ true
is_kept true e = refl
is_kept false e = cc

is_reset : (b : Bool) → cond b kept reset ≡ reset → b ≡ false
is_reset true e = cc
is_reset false e = refl

behind_five : (wrong : Bool) (rest : Outcome) → refusal_of (cond wrong (refused 5) rest) ≡ 0 → cond wrong (refused 5) rest ≡ rest
behind_five true rest e = absurd (omega arith)
behind_five false rest e = refl

module _ (scheme : Scheme) (family : Family) (auc : Auc) (count₀ : ℕ) (rands buffer rand auts : Octets) where
  abbrev w : ℕ
  w = width_of scheme auc.edition

  abbrev F : Functions
  F = family.under auc.keys

  abbrev N : ℕ
  N = resync_count count₀

  abbrev ms : ℕ
  ms = seq_ms_in w F rand auts

  abbrev range : Bool
  range = in_range auc.seqhe ms N

  abbrev right : Bool
  right = mac_s_right F rand auts

  abbrev from : ℕ
  from = resync_from scheme family auc rand auts N

  abbrev outcome₁ : Outcome
  outcome₁ = resync_outcome scheme family auc count₀ rands buffer rand auts

  abbrev resynced : AucAnswer
  resynced = resync scheme family auc count₀ rands buffer rand auts

  abbrev Asked : Type 0
  Asked = Asking scheme family auc count₀ N rands buffer

  abbrev Sizes : Type 0
  Sizes = ResyncSized scheme family auc count₀ rands buffer rand auts

  abbrev Proper : Type 0
  Proper = Sound scheme family auc count₀ N rands buffer

  abbrev Batch : ℕ → Type 0
  Batch start = Generates scheme family auc count₀ N rands buffer start resynced

  resync_is : resynced.outcome ≡ outcome₁
  unfolding resync
  resync_is = outcome_is scheme family auc count₀ N rands buffer from outcome₁

  abbrev lent : Bool
  lent = lent_for N (length rands) (length buffer) && lent_auts (length rand) (length auts)

  true_sized : lent ≡ true → Sizes
  true_sized e =
      let both = (and-eq-true_iff (lent_for N (length rands) (length buffer)) (lent_auts (length rand) (length auts))).0 e in
      let of_batch = (lent_iff N (length rands) (length buffer)).0 both.0 in
      let of_auts = (lent_auts_iff (length rand) (length auts)).0 both.1 in
      record {
        sizes = record { rands_size_lem = of_batch.0; buffer_size = of_batch.1 };
        rand_size_lem = of_auts.0;
        auts_size_lem = of_auts.1;
      }

  sized_true : Sizes → lent ≡ true
  sized_true l = (and-eq-true_iff (lent_for N (length rands) (length buffer)) (lent_auts (length rand) (length auts))).1 (
    (lent_iff N (length rands) (length buffer)).1 (l.sizes.rands_size_lem, l.sizes.buffer_size),
    (lent_auts_iff (length rand) (length auts)).1 (l.rand_size_lem, l.auts_size_lem),
  )

  -- behind refusals 1 to 4
  module _ (a : Asked) (l : Sizes) where
    behind_four : resynced.outcome
        ≡ cond (not range && not right) (refused 5) (unless_past scheme family auc from N (cond range kept reset))
    unfolding resync_outcome auts_outcome
    behind_four =
        resync_is
        ∙ not_refused scheme family auc count₀ N lent rands _ a.valid a.count_small (sized_true l) a.unequal_rands

    wrong_five : range ≡ false → right ≡ false → resynced.outcome ≡ refused 5
    wrong_five e wrong = behind_four ∙ rw (e, wrong)

    past_six : Past scheme family auc count₀ rands buffer rand auts → resynced.outcome ≡ refused 6
    past_six past = ⊎_elim
        (λ h. behind_four ∙ rw h.0 (is_past scheme family auc auc.seqhe N kept h.1))
        (λ h. behind_four ∙ rw (h.0, h.1) (is_past scheme family auc ms N reset h.2))
        past

    in_range_lem : range ≡ true → auc.seqhe + N ≤ limit w → resynced.outcome ≡ kept
    in_range_lem e room = behind_four ∙ rw e (not_past scheme family auc auc.seqhe N kept room)

    out_of_range : range ≡ false → right ≡ true → ms + N ≤ limit w → resynced.outcome ≡ reset
    out_of_range e ok room = behind_four ∙ rw (e, ok) (not_past scheme family auc ms N reset room)

  -- where a batch is given, it is kept or reset by range, and its last SEQ is within the limit
  pub given_by_range : refusal_of outcome₁ ≡ 0 → (outcome₁ ≡ cond range kept reset) × (from + N ≤ limit w)
  unfolding resync_outcome auts_outcome
  given_by_range e =
      let last = cond range kept reset in
      let six = unless_past scheme family auc from N last in
      let five = cond (not range && not right) (refused 5) six in
      let a = passes_on scheme family auc count₀ N lent rands (passes scheme family auc count₀ N lent rands five e) five in
      let b = behind_five (not range && not right) six (ap refusal_of (sym a) ∙ e) in
      let c = behind_six scheme family auc count₀ N rands buffer from last (ap refusal_of (sym (a ∙ b)) ∙ e) in
      (a ∙ b ∙ c.0, c.1)

  -- and what is lent has its lengths
  pub resync_lent : refusal_of outcome₁ ≡ 0 → length rands ≡ rand_size * N
  unfolding resync_outcome
  resync_lent e =
      (true_sized (passes scheme family auc count₀ N lent rands (auts_outcome scheme family auc rand auts N) e).named).sizes.rands_size_lem

  -- the batch of an outcome that is no refusal, from the number that it follows
  batch_of : Proper → (start : ℕ) (o : Outcome) → refusal_of o ≡ 0 → resynced.outcome ≡ o → from ≡ start → Batch start
  unfolding resync
  batch_of s start o batch e at =
      let is = sym resync_is ∙ e in
      let room = (given_by_range (ap refusal_of is ∙ batch)).1 in
      let there = ap₂ (λ (x : ℕ) (o : Outcome). answer_with scheme family auc x rands N buffer o) at is in
      subst (Generates scheme family auc count₀ N rands buffer start)
      (sym (there ∙ answer_given scheme family auc start rands N buffer o batch))
      (generates scheme family auc count₀ N rands buffer s start (rw at at room) o)

  kept_generates : Proper → resynced.outcome ≡ kept → Batch auc.seqhe
  kept_generates s e =
      let is = sym resync_is ∙ e in
      let b = is_kept range (sym (given_by_range (ap refusal_of is)).0 ∙ is) in
      batch_of s auc.seqhe kept refl e (ap (λ (b : Bool). cond b auc.seqhe ms) b)

  reset_generates : Proper → resynced.outcome ≡ reset → Batch ms
  reset_generates s e =
      let is = sym resync_is ∙ e in
      let b = is_reset range (sym (given_by_range (ap refusal_of is)).0 ∙ is) in
      batch_of s ms reset refl e (ap (λ (b : Bool). cond b auc.seqhe ms) b)

  recovered : Proper → length rand ≡ rand_size → (sqn : ℕ) → sqn < 2 ^ sqn_bits → auts ≡ auts_of F sqn rand
      → (ms ≡ seq_of w sqn) × (right ≡ true)
  unfolding make_auts write_auts
  recovered s size sqn fits e =
      let L = s.lawful.lengths auc.edition auc.keys ((valid_iff scheme family auc).0 s.asking.valid).0 s.keys in (
        ap (seq_ms_in w F rand) e ∙ auts_seq w F L sqn fits dummy_amf rand refl size,
        ap (mac_s_right F rand) e ∙ auts_mac F L (encode sqn_size sqn) dummy_amf rand (length_sqn sqn) refl size refl,
      )

  pub resync_laws : ResyncLaws scheme family auc count₀ rands buffer rand auts
  unfolding resync resync_outcome
  resync_laws = record {
    refuses = refuses scheme family auc count₀ N rands buffer Sizes lent _ resynced resync_is sized_true true_sized;
    recovered = recovered;
    in_range_lem = in_range_lem;
    kept_generates = kept_generates;
    out_of_range = out_of_range;
    reset_generates = reset_generates;
    refusal5 = wrong_five;
    number5 = λ a l e wrong. ap refusal_of (wrong_five a l e wrong);
    refusal6 = past_six;
    number6 = λ a l past. ap refusal_of (past_six a l past);
    stays = stays_with scheme family auc count₀ N rands buffer from outcome₁;
    stays_valid = λ v. valid_with scheme family auc count₀ N rands buffer from v outcome₁ (λ e. (given_by_range e).1);
  }
