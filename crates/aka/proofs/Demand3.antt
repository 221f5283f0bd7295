-- Demand 3, proved: the batch of a resynchronisation rises from above SEQ_MS, within D and the limit. Assumes nothing.
use Prim.Native.Nat.{ℕ, ◌+◌, ◌≤◌, ◌<◌}
use mathlib.Core.Bool.{Bool, true, false, cond, or-true}
use mathlib.Core.List.{List, [], ◌∷◌}
use mathlib.Core.Logic.{◌⊎◌, inl, inr}
use mathlib.Core.Option.{none}
use mathlib.Core.Path.{◌≡◌, refl, sym, ap, ap₂, ◌∙◌, subst}
use native.Mathlib.Nat.{mod-lt}
use native.Mathlib.Omega.{arith}
use lib.ListN.{length}
use lib.Pow.{pow_pos}
use Rattle.octets.specs.Octets.{Octets}
use Rattle.octets.proofs.Absurd.{zero_not_one}
use Rattle.aka.specs.Layout.{rand_size, rand_at, vector_at}
use Rattle.aka.specs.Functions.{Functions, Family, Lengths, Lawful}
use Rattle.aka.specs.Sequence.{D, Numbering, Scheme, Fitting, width_of, indices, limit}
use Rattle.aka.specs.Usim.{Usim, UsimAnswer, seq_ms, sync_failure, unchanged}
use Rattle.aka.specs.Auc.{AucAnswer, kept, reset, seq_at, ind_at, batch_from, in_range, kept_or_reset, mac_s_right, seq_ms_in, make_vector}
use Rattle.aka.specs.Auc.{default_count, after_batch, resync}
use Rattle.aka.specs.Demand3.{Setting, Shapes, Call, AnsweredCall, Each, Promised, Premise, Conclusion, Demand3, OtherNotAccepted}
use Rattle.aka.specs.Demand3.{n, failure, resynced, answered, answers_to}
use Rattle.aka.proofs.Lists.{each_map}
use Rattle.aka.proofs.Places.{within}
use Rattle.aka.proofs.Tokens.{sqn_octets}
use Rattle.aka.proofs.Failures.{auts_of, auts_is_long, auts_is_right, auts_has}
use Rattle.aka.proofs.Verdicts.{valid_parts, lengths_known, verdict_lengths, sync_answer}
use Rattle.aka.proofs.Batches.{count_le, length_rand, batch_vector}
use Rattle.aka.proofs.Outcomes.{from_bounds, valid_iff, resync_given}
use Rattle.aka.proofs.Rising.{Rising, Counted, all_calls}

-- ---- the theorem

module _ (scheme : Scheme) (fits : Fitting scheme) (family : Family) (lawful : Lawful family) (s : Setting)
    (shapes : Shapes scheme s) (p : Premise scheme family s) where
  abbrev w : ℕ
  w = width_of scheme s.usim.edition

  -- the centre's numbering is the card's
  abbrev m : Numbering
  m = scheme.numbering s.auc.edition

  same_width : m.width ≡ w
  same_width = ap (width_of scheme) p.same_edition

  abbrev F : Functions
  F = family.under s.usim.keys

  abbrev N : ℕ
  N = n scheme family s

  abbrev ms : ℕ
  ms = seq_ms s.usim

  abbrev st : ℕ
  st = kept_or_reset s.auc.seqhe ms N

  L : Lengths F
  L = lawful.lengths s.usim.edition s.usim.keys (valid_parts scheme family s.usim p.usim_valid).0 shapes.usim.keys

  -- the same keys, the same functions
  L' : Lengths (family.under s.auc.keys)
  L' = subst (λ k. Lengths (family.under k)) (sym p.same_keys) L

  rand_size_lem : length s.rand ≡ rand_size
  rand_size_lem =
      (lengths_known s.rand s.autn
      (verdict_lengths scheme family s.usim s.rand s.autn sync_failure (λ number e. zero_not_one (cc))
      p.failed)
      ).0

  abbrev auts : Octets
  auts = auts_of scheme fits family s.usim L p.usim_valid shapes.usim s.rand rand_size_lem

  failure_is : failure scheme family s ≡ unchanged sync_failure s.usim auts
  failure_is = sync_answer scheme family s.usim s.rand s.autn p.failed

  -- the AuC finds SEQ_MS and a right MAC-S
  same : family.under s.auc.keys ≡ F
  same = ap family.under p.same_keys

  right : mac_s_right (family.under s.auc.keys) s.rand auts ≡ true
  right =
      ap (λ G. mac_s_right G s.rand auts) same
      ∙ auts_is_right scheme fits family s.usim L p.usim_valid shapes.usim s.rand rand_size_lem

  has : seq_ms_in m.width (family.under s.auc.keys) s.rand auts ≡ ms
  has =
      ap₂ (λ v G. seq_ms_in v G s.rand auts) same_width same
      ∙ auts_has scheme fits family s.usim L p.usim_valid shapes.usim s.rand rand_size_lem

  bounds : (ms ≤ st) × (st + N ≤ ms + D) × (st + N ≤ limit w)
  bounds =
      let few = count_le default_count s.count (omega arith) p.count in
      from_bounds s.auc.seqhe ms N (limit w) (omega (arith, few)) p.room_ms p.room_he

  -- so it sends the batch counted from `st`
  resynced_is : resynced scheme family s ≡ record {
    outcome = cond (in_range s.auc.seqhe ms N) kept reset;
    n = N;
    auc = after_batch m s.auc st N;
    batch = batch_from scheme family s.auc st s.rands N;
  }
  resynced_is =
      ap (λ (a : UsimAnswer). resync scheme family s.auc s.count s.rands s.buffer s.rand a.auts) failure_is
      ∙ resync_given scheme family s.auc s.count s.rands s.buffer
      p.auc_valid p.count p.rands p.buffer p.unequal_rands s.rand auts rand_size_lem
      (auts_is_long scheme fits family s.usim L p.usim_valid shapes.usim s.rand rand_size_lem)
      (rw (right, has) (or-true (in_range s.auc.seqhe ms N))) (rw (has, same_width) bounds.2)
      ∙ rw has

  abbrev batch : Octets
  batch = (resynced scheme family s).batch

  vectors : (k : ℕ) → k < N
      → vector_at batch k ≡ make_vector F (sqn_octets w (seq_at st k) (ind_at m s.auc k)) s.auc.amf (rand_at s.rands k)
  vectors k h =
      ap (λ (a : AucAnswer). vector_at a.batch k) resynced_is
      ∙ batch_vector scheme family s.auc L' shapes.auc.amf st s.rands N p.rands k h
      ∙ ap₂ (λ G v. make_vector G (sqn_octets v (seq_at st k) (ind_at m s.auc k)) s.auc.amf (rand_at s.rands k)) same same_width

  rising : Rising scheme family s.usim batch N s.auc.amf (seq_at st) (ind_at m s.auc) (rand_at s.rands)
  rising = record {
    fits = fits;
    admitted = (valid_parts scheme family s.usim p.usim_valid).0;
    amf_size_lem = shapes.auc.amf;
    rand_size_lem = length_rand s.rands N p.rands;
    index = λ k h. subst (λ (v : ℕ). ind_at m s.auc k < indices v) same_width (mod-lt _ (pow_pos m.width));
    above = λ k h. omega (arith, bounds);
    rising = λ j k h g. omega arith;
    near = λ k h. omega (arith, bounds);
    within = λ k h. omega (arith, bounds);
    vectors = vectors;
  }

  -- SEQ_HE is ahead of SEQ_MS by the vectors that follow
  seqhe_is : (resynced scheme family s).auc.seqhe ≡ st + N
  seqhe_is = ap (λ (a : AucAnswer). a.auc.seqhe) resynced_is

  promised : (c : AnsweredCall) → Counted w F batch N (seq_at st) c → Promised w F batch N (resynced scheme family s).auc.seqhe c
  promised c x = record {
    accepts = x.accepts;
    ahead = λ k e. rw seqhe_is (omega (arith, x.inside k e, x.number k e));
  }

  -- from the record that the failure left
  abbrev Goal : Usim → List Call → Type 0
  Goal u calls = Each OtherNotAccepted (answers_to scheme family batch N u none calls)
      → Each (Counted w F batch N (seq_at st)) (answers_to scheme family batch N u none calls)

  counted : (calls : List Call) → Goal s.usim calls
  counted calls =
      all_calls scheme family s.usim L batch N s.auc.amf (seq_at st) (ind_at m s.auc) (rand_at s.rands) rising
      shapes.usim.places (valid_parts scheme family s.usim p.usim_valid).1
      (valid_parts scheme family s.usim p.usim_valid).2 calls

  kept_or_reset_lem : (b : Bool) → (cond b kept reset ≡ kept) ⊎ (cond b kept reset ≡ reset)
  kept_or_reset_lem true = inl refl
  kept_or_reset_lem false = inr refl

  conclusion : Conclusion scheme family s
  conclusion = record {
    sent = subst (λ (a : AucAnswer). (a.outcome ≡ kept) ⊎ (a.outcome ≡ reset)) (sym resynced_is)
        (kept_or_reset_lem (in_range s.auc.seqhe ms N));
    all = λ calls others.
        each_map (Counted w F batch N (seq_at st)) (Promised w F batch N (resynced scheme family s).auc.seqhe) promised
        (answered scheme family s calls)
        (subst (λ (u : Usim). Goal u calls) (sym (ap (λ (a : UsimAnswer). a.usim) failure_is)) (counted calls) others);
  }

pub demand3 : Demand3
demand3 = conclusion
