-- The theorems are not empty: settings that meet demand 3's premise, one of edition 1, reset, and one of edition 2, kept; a list of calls,
-- some of the batch and some not; a sample of the worked table; and the octets of document 01's sample run, computed from the definitions.
-- Assumes nothing.
use Prim.Native.Nat.{ℕ, ◌≤◌}
use mathlib.Core.Bool.{true}
use mathlib.Core.List.{List, [], ◌∷◌, ◌++◌, map}
use mathlib.Core.Option.{none, some}
use mathlib.Core.Path.{◌≡◌, refl}
use native.Mathlib.Omega.{arith}
use lib.ListN.{replicate, set, drop}
use Rattle.octets.specs.Octets.{Octets, xor, part, equal, turn_left, encode, digits, spelt}
use Rattle.octets.proofs.Absurd.{zero_not_one}
use Rattle.aka.specs.Layout.{all_zero, vector_size, vector_at, joined}
use Rattle.aka.specs.Layout.{write_autn, read_autn, write_auts, read_auts, write_vector, read_vector}
use Rattle.aka.specs.Functions.{Shaped}
use Rattle.aka.specs.Sequence.{width_of, indices, limit, sqn_of}
use Rattle.aka.specs.Editions.{editions, is_edition, row_of}
use Rattle.aka.specs.Usim.{Usim, UsimAnswer, accepted, mac_failure, sync_failure, refused, challenge, verdict_on, judgement, answer_with}
use Rattle.aka.specs.Usim.{valid_usim, lengths_right, mac_right, fresh, highest, lowest_index, all_within, make_auts}
use Rattle.aka.specs.Auc.{unequal, kept, reset, valid_auc, make_autn, make_vector, batch_from, pair_with, pair_from, equal_pair, lent_for}
use Rattle.aka.specs.Auc.{lent_auts, unless_refused, unless_past, in_range, mac_s_right, auts_outcome, resync_outcome, resync}
use Rattle.aka.specs.Auc as auc
use Rattle.aka.specs.Demand3.{Setting, Shapes, Call, AnsweredCall, Each, OtherNotAccepted, Premise, Conclusion}
use Rattle.aka.specs.Demand3.{carries, place_from, place_of}
use Rattle.aka.specs.Demand3.{answers_to, answered, failure, resynced}
use Rattle.aka.specs.Table.{Sample, Proper, Table, edition, width, new, used}
use Rattle.functions.specs.Sets.{test_outputs, base_of, outputs, outputs_of, is_set, sets}
use Rattle.functions.specs.SampleRun.{z, keys, amf}
use Rattle.functions.specs.SampleRun as run
use Rattle.functions.proofs.Protocol.{demand3_holds, table_holds}

keys_shaped : Shaped keys
keys_shaped = record { k = refl; opc = refl }

abbrev usim_with : (e : ℕ) (places : List ℕ) → Usim
usim_with e places = record { edition = e; keys = keys; places = places }

-- AUTN of SEQ and IND, for the sample's RAND and AMF
abbrev autn_with : (e seq ind : ℕ) → Octets
autn_with e seq ind = make_autn (sets.under keys) (encode 6 (sqn_of (width_of editions e) seq ind)) amf z

-- ---- of an edition: a USIM with SEQ_MS 10, an old challenge to it, and an AuC with this SEQ_HE

abbrev lost : (e seqhe : ℕ) → Setting
lost e seqhe = record {
  usim = usim_with e used;
  rand = z;
  autn = autn_with e 1 3;
  auc = record { edition = e; keys = keys; amf = amf; seqhe = seqhe; next = 4 };
  count = 2;
  rands = replicate 16 1 ++ replicate 16 2;
  buffer = replicate 144 0;
}

-- calls: the two vectors of the new batch in turn; between them the first once more, and an AUTN of no octets
abbrev call_of : (k : ℕ) → Call
call_of k = let v = vector_at (resynced editions sets (lost 1 1)).batch k in record { rand = v.rand; autn = v.autn }

abbrev walk : List AnsweredCall
walk = answered editions sets (lost 1 1) (call_of 0 ∷ call_of 0 ∷ record { rand = z; autn = [] } ∷ call_of 1 ∷ [])

-- ---- a sample of the worked table

abbrev sample : Sample
sample = record {
  keys = keys;
  amf = amf;
  rand = z;
  places100 = set new 7 100;
  next = 31;
  rands = replicate 16 1 ++ replicate 16 2 ++ replicate 16 3 ++ replicate 16 4 ++ replicate 16 5;
  buffer = replicate 360 0;
}

-- ---- the sample run of document 01: SQN 000000000020 to a new USIM, and the same challenge again

abbrev first : UsimAnswer
first = challenge editions sets (usim_with 1 new) z (autn_with 1 1 0)

abbrev again : UsimAnswer
again = challenge editions sets first.usim z (autn_with 1 1 0)

-- ---- what computes

pub record Computed : Type 0 where
  pub autn : autn_with 1 1 0 ≡ run.autn
  pub res : first.res ≡ run.res
  pub ck : first.ck ≡ run.ck
  pub ik : first.ik ≡ run.ik
  pub auts : again.auts ≡ run.auts
  -- each verdict occurs: accepted, synchronisation failure, and MAC failure where the MAC is zeros
  pub is_accepted : first.verdict ≡ accepted
  pub is_sync : again.verdict ≡ sync_failure
  pub is_mac : (challenge editions sets (usim_with 1 used) z (part 0 8 (autn_with 1 10 3) ++ replicate 8 0)).verdict ≡ mac_failure
  -- in edition 2 SEQ_HE 12 is kept, in edition 1 SEQ_HE 1 is reset
  pub usim1 : valid_usim editions sets (usim_with 1 used) ≡ true
  pub usim2 : valid_usim editions sets (usim_with 2 used) ≡ true
  pub failed1 : (failure editions sets (lost 1 1)).verdict ≡ sync_failure
  pub failed2 : (failure editions sets (lost 2 12)).verdict ≡ sync_failure
  pub unequal2 : equal_pair (lost 1 1).rands 2 ≡ unequal
  pub valid12 : valid_auc editions sets (lost 2 12).auc ≡ true
  pub kept12 : (resynced editions sets (lost 2 12)).outcome ≡ kept
  pub valid1 : valid_auc editions sets (lost 1 1).auc ≡ true
  pub reset1 : (resynced editions sets (lost 1 1)).outcome ≡ reset
  -- the calls
  pub places : map (λ s. s.place) walk ≡ some 0 ∷ none ∷ none ∷ some 1 ∷ []
  pub verdicts : map (λ s. s.answer.verdict) walk ≡ accepted ∷ sync_failure ∷ refused 3 ∷ accepted ∷ []
  pub others : Each OtherNotAccepted walk
  -- the sample
  pub admitted : sets.admits edition keys ≡ true
  pub tail100 : all_zero (drop (indices width) sample.places100) ≡ true
  pub highest100 : highest sample.places100 ≡ 100
  pub unequal5 : equal_pair sample.rands 5 ≡ unequal

not_none : {k : ℕ} → some k ≡ none → ⊥
not_none e = zero_not_one (cc)

not_sync : sync_failure ≡ accepted → ⊥
not_sync e = zero_not_one (cc)

not_refused : refused 3 ≡ accepted → ⊥
not_refused e = zero_not_one (cc)

pub computed : Computed
unfolding is_edition row_of is_set sets test_outputs base_of outputs outputs_of challenge verdict_on judgement answer_with
    valid_usim lengths_right mac_right fresh highest lowest_index all_within all_zero make_auts make_autn write_autn read_autn
    write_auts read_auts xor equal digits spelt pair_from pair_with valid_auc auc.answer_with lent_for lent_auts unless_refused
    unless_past in_range mac_s_right auts_outcome resync_outcome resync batch_from make_vector write_vector read_vector joined
    turn_left answers_to place_from carries
computed = record {
  autn = refl;
  res = refl;
  ck = refl;
  ik = refl;
  auts = refl;
  is_accepted = refl;
  is_sync = refl;
  is_mac = refl;
  usim1 = refl;
  usim2 = refl;
  failed1 = refl;
  failed2 = refl;
  unequal2 = refl;
  valid12 = refl;
  kept12 = refl;
  valid1 = refl;
  reset1 = refl;
  places = refl;
  verdicts = refl;
  others = (λ e v. not_none e, (λ e v. not_sync v, (λ e v. not_refused v, (λ e v. not_none e, tt))));
  admitted = refl;
  tail100 = refl;
  highest100 = refl;
  unequal5 = refl;
}

-- ---- the worked example of `Demand3.place_of`: a batch of three, and calls with its vectors at places 1, 0 and 2

abbrev three : Octets
three = replicate vector_size 0 ++ replicate vector_size 1 ++ replicate vector_size 2

abbrev with_vector : (k : ℕ) → Call
with_vector k = record { rand = (vector_at three k).rand; autn = (vector_at three k).autn }

pub record PlacesCounted : Type 0 where
  pub first : place_of three 3 none (with_vector 1) ≡ some 1
  pub second : place_of three 3 (some 1) (with_vector 0) ≡ none
  pub third : place_of three 3 (some 1) (with_vector 2) ≡ some 2

pub places_counted : PlacesCounted
unfolding place_from carries lengths_right equal read_vector
places_counted = record { first = refl; second = refl; third = refl }

-- ---- so the premises are met

shapes : (e seqhe : ℕ) → Shapes editions (lost e seqhe)
shapes e seqhe = record { usim = record { keys = keys_shaped; places = refl }; auc = record { keys = keys_shaped; amf = refl } }

premise : (e seqhe : ℕ) → valid_usim editions sets (usim_with e used) ≡ true → valid_auc editions sets (lost e seqhe).auc ≡ true
    → (failure editions sets (lost e seqhe)).verdict ≡ sync_failure → 14 ≤ limit (width_of editions e) → seqhe ≤ 12
    → Premise editions sets (lost e seqhe)
unfolding highest
premise e seqhe usim_valid valid failed room small = record {
  usim_valid = usim_valid;
  auc_valid = valid;
  same_edition = refl;
  same_keys = refl;
  count = omega arith;
  rands = refl;
  buffer = refl;
  unequal_rands = computed.unequal2;
  room_ms = omega arith;
  room_he = omega arith;
  failed = failed;
}

pub kept_here : Conclusion editions sets (lost 2 12)
unfolding row_of
kept_here =
    demand3_holds (lost 2 12) (shapes 2 12)
    (premise 2 12 computed.usim2 computed.valid12 computed.failed2 (omega arith) (omega arith))

pub reset_here : Conclusion editions sets (lost 1 1)
unfolding row_of
reset_here =
    demand3_holds (lost 1 1) (shapes 1 1)
    (premise 1 1 computed.usim1 computed.valid1 computed.failed1 (omega arith) (omega arith))

proper : Proper sets sample
unfolding row_of
proper = record {
  admitted = computed.admitted;
  places100_tail = computed.tail100;
  keys = keys_shaped;
  amf = refl;
  rand = refl;
  places100_size = refl;
  places100_highest = computed.highest100;
  next = omega arith;
  rands = refl;
  buffer = refl;
  unequal_rands = computed.unequal5;
}

pub table_here : Table sets sample
table_here = table_holds sample proper
