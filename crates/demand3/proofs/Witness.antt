-- The theorem is not empty. Document 01's sample run is over, its challenge comes to the card again, and the centre has lost its record
-- and begins anew: SEQ_HE is behind and is reset. Assumes nothing.
use Prim.Native.Nat.{ℕ}
use mathlib.Core.List.{◌∷◌, ◌++◌}
use mathlib.Core.Path.{refl}
use native.Mathlib.Omega.{arith}
use lib.ListN.{set}
use Rattle.octets.specs.Octets.{Octets, zeros, xor, equal, turn_left, digits, spelt}
use Rattle.functions.specs.Sets.{is_set, sets, test_outputs, base_of, outputs, outputs_of}
use Rattle.functions.specs.SampleRun.{k, z, amf, autn, auts}
use Rattle.functions.specs.declared.Keys.{Keys}
use Rattle.aka.specs.Layout.{all_zero, write_autn, read_autn, write_auts, read_auts, write_vector, read_vector, joined}
use Rattle.aka.specs.Usim.{challenge, verdict_on, judgement, answer_with, valid_usim, lengths_right, mac_right, fresh, highest}
use Rattle.aka.specs.Usim.{lowest_index}
use Rattle.aka.specs.Usim.{all_within, make_auts}
use Rattle.aka.specs.Auc.{valid_auc, make_autn, make_vector, batch_from, pair_with, pair_from, lent_for, lent_auts, unless_refused}
use Rattle.aka.specs.Auc.{unless_past}
use Rattle.aka.specs.Auc.{in_range, mac_s_right, auts_outcome, resync_outcome, resync}
use Rattle.aka.specs.Auc as auc
use Rattle.aka.specs.Demand3 as aka
use Rattle.aka.specs.Editions.{editions, card_places, is_edition, row_of}
use Rattle.usim_record.specs.declared.Usim.{Usim}
use Rattle.usim_record.specs.declared.Answer as card
use Rattle.usim_record.specs.declared.Verdict.TheVariants.{Sync}
use Rattle.auc_record.specs.declared.Auc.{Auc}
use Rattle.auc_record.specs.declared.Answer as centre
use Rattle.auc_record.specs.declared.Outcome.TheVariants.{Reset}
use Rattle.auc_record.specs.Views.{auc_of}
use Rattle.demand3.specs.Running.{Setting, Ran, setting_of, Conclusion}
use Rattle.demand3.proofs.Running.{running}

abbrev keys : Keys
keys = record { set = 0; k = k; opc = z }

abbrev usim : Usim
usim = record { edition = 1; keys = keys; places = set (zeros card_places) 0 1 }

abbrev failure : card.Answer
failure = record { verdict = Sync; usim = usim; res = zeros 8; ck = zeros 16; ik = zeros 16; auts = auts }

abbrev auc_with : (seqhe next : ℕ) → Auc
auc_with seqhe next = record { edition = 1; keys = keys; amf = amf; seqhe = seqhe; next = next }

abbrev resynced : centre.Answer
resynced = record { outcome = Reset; n = 2; auc = auc_with 3 1 }

-- two RANDs
abbrev rands : Octets
rands = zeros 16 ++ (1 ∷ zeros 15)

abbrev buffer : Octets
buffer = zeros 144

abbrev lost : Setting
lost = record {
  usim = usim;
  rand = z;
  autn = autn;
  failure = failure;
  auc = auc_with 0 0;
  count = 2;
  rands = rands;
  buffer = buffer;
  resynced = resynced;
  batch = (resync editions sets (auc_of (auc_with 0 0)) 2 rands buffer z auts).batch;
}

ran : Ran lost
unfolding is_edition row_of is_set sets test_outputs base_of outputs outputs_of challenge verdict_on judgement answer_with valid_usim
    lengths_right mac_right fresh highest lowest_index all_within all_zero make_auts make_autn write_autn read_autn write_auts read_auts
    xor equal digits spelt pair_from pair_with valid_auc auc.answer_with lent_for lent_auts unless_refused unless_past in_range
    mac_s_right auts_outcome resync_outcome resync batch_from make_vector write_vector read_vector joined turn_left
ran = record {
  failure = record {
    answer_is = refl;
    sqn_told = (refl, omega arith);
    shape = record { keys = record { k = refl; opc = refl }; places = refl };
  };
  resynced = record { answer_is = refl; shape = record { keys = record { k = refl; opc = refl }; amf = refl } };
}

premise : aka.Premise editions sets (setting_of lost)
unfolding is_edition row_of is_set sets test_outputs base_of outputs outputs_of challenge verdict_on judgement answer_with valid_usim
    lengths_right mac_right fresh highest lowest_index all_within all_zero make_auts make_autn write_autn read_autn write_auts read_auts
    xor equal digits spelt pair_from pair_with valid_auc turn_left
premise = record {
  usim_valid = refl;
  auc_valid = refl;
  same_edition = refl;
  same_keys = refl;
  count = omega arith;
  rands = refl;
  buffer = refl;
  unequal_rands = refl;
  room_ms = omega arith;
  room_he = omega arith;
  failed = refl;
}

pub lost_is_found : Conclusion lost
lost_is_found = running lost ran premise
