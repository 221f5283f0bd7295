-- The theorem is not empty, and its premises are needed. A run of the code in edition 2: an order of two from index 63 on, whose second
-- vector comes to the card first; the first, late, is then accepted. Assumes nothing.
use Prim.Native.Nat.{ℕ}
use mathlib.Core.List.{List, [], ◌∷◌, ◌++◌}
use mathlib.Core.Logic.{⊎_elim}
use mathlib.Core.Path.{refl}
use native.Mathlib.Omega.{arith}
use lib.ListN.{set}
use Rattle.octets.specs.Octets.{Octets, zeros, xor, equal, turn_left, digits, spelt}
use Rattle.functions.specs.Sets.{is_set, sets, test_outputs, base_of, outputs, outputs_of}
use Rattle.functions.specs.SampleRun.{k, z, amf}
use Rattle.functions.specs.declared.Keys.{Keys}
use Rattle.aka.specs.Layout.{Vector, all_zero, vector_at, write_autn, read_autn, write_auts, read_auts, write_vector, read_vector, joined}
use Rattle.aka.specs.Editions.{editions, card_places, is_edition, row_of}
use Rattle.aka.specs.Usim.{challenge, verdict_on, judgement, answer_with, valid_usim, lengths_right, mac_right, fresh, highest}
use Rattle.aka.specs.Usim.{lowest_index}
use Rattle.aka.specs.Usim.{all_within, make_auts}
use Rattle.aka.specs.Auc.{valid_auc, make_autn, make_vector, batch_from, pair_with, pair_from, lent_for, lent_auts, unless_refused}
use Rattle.aka.specs.Auc.{unless_past}
use Rattle.aka.specs.Auc.{order_outcome, order}
use Rattle.aka.specs.Auc as auc
use Rattle.aka.specs.Runs.{vectors_in}
use Rattle.aka.specs.Window.{AcceptedAs}
use Rattle.usim_record.specs.declared.Usim.{Usim}
use Rattle.usim_record.specs.declared.Answer as card
use Rattle.usim_record.specs.declared.Verdict.TheVariants.{Accepted}
use Rattle.usim_record.specs.Views.{answer_of}
use Rattle.auc_record.specs.declared.Auc.{Auc}
use Rattle.auc_record.specs.declared.Outcome.TheVariants.{Given}
use Rattle.auc_record.specs.Views.{auc_of}
use Rattle.runs.specs.Promises.{Answered}
use Rattle.window.specs.Running.{Happening, ordered, challenged, Ran, end, start_with}
use Rattle.window.proofs.Running.{window}

abbrev keys : Keys
keys = record { set = 0; k = k; opc = z }

abbrev card_with : List ℕ → Usim
card_with places = record { edition = 2; keys = keys; places = places }

abbrev auc_with : (seqhe next : ℕ) → Auc
auc_with seqhe next = record { edition = 2; keys = keys; amf = amf; seqhe = seqhe; next = next }

-- two RANDs
abbrev rands : Octets
rands = zeros 16 ++ (1 ∷ zeros 15)

abbrev batch : Octets
batch = (order editions sets (auc_of (auc_with 10 63)) 2 rands (zeros 144)).batch

abbrev vec : ℕ → Vector
vec g = vector_at batch g

-- SEQ 11 with index 63, and SEQ 12 with index 0: SQN 767 and 768
abbrev happenings : List Happening
happenings =
    ordered 2 rands (zeros 144) (record { outcome = Given; n = 2; auc = auc_with 12 1 }) batch
    ∷ challenged (vec 1).rand (vec 1).autn
    (record {
      verdict = Accepted 768;
      usim = card_with (set (zeros card_places) 0 12);
      res = (vec 1).xres;
      ck = (vec 1).ck;
      ik = (vec 1).ik;
      auts = zeros 14;
    })
    ∷ []

ran : Ran (start_with (card_with (zeros card_places)) (auc_with 10 63)) happenings
unfolding is_edition row_of is_set sets test_outputs base_of outputs outputs_of challenge verdict_on judgement answer_with valid_usim
    lengths_right mac_right fresh highest lowest_index all_within all_zero make_auts make_autn write_autn read_autn write_auts read_auts
    xor equal digits spelt pair_from pair_with valid_auc auc.answer_with lent_for lent_auts unless_refused unless_past order_outcome
    order batch_from make_vector write_vector read_vector joined turn_left vectors_in Ran
ran = (
  record { answer_is = refl; shape = record { keys = record { k = refl; opc = refl }; amf = refl } },
  tt,
  (
    record {
      answer_is = refl;
      sqn_told = (refl, omega arith);
      shape = record { keys = record { k = refl; opc = refl }; places = refl };
    },
    λ e. (1, vec 1, refl, refl),
    tt,
  ),
)

-- the first vector comes late, and whatever the code's contract allows, it is accepted
late : (answer : card.Answer) → Answered (card_with (set (zeros card_places) 0 12)) (vec 0).rand (vec 0).autn answer
    → AcceptedAs (vec 0) (answer_of answer)
unfolding is_edition row_of is_set sets test_outputs base_of outputs outputs_of valid_usim highest lowest_index all_within all_zero
    make_autn write_autn read_autn xor equal digits spelt pair_from pair_with valid_auc auc.answer_with lent_for unless_refused
    unless_past order_outcome order batch_from make_vector write_vector read_vector joined turn_left vectors_in end
late =
    window (auc_with 10 63) refl (omega arith) (card_with (zeros card_places)) refl happenings ran 0 (vec 0) refl (omega arith)
    (λ among. ⊎_elim (λ e. omega (arith, e)) (λ none. none) among) (omega arith)
