-- The window's premises are needed. With a number that the centre did not generate, with edition 1's numbering, and with a reset between, a
-- number among the last generated is refused though it is within D. Assumes nothing.
use Prim.Native.Nat.{ℕ}
use mathlib.Core.List.{List, [], ◌∷◌, ◌++◌}
use mathlib.Core.Logic.{⊎_elim}
use mathlib.Core.Path.{◌≡◌, refl}
use native.Mathlib.Omega.{arith}
use Rattle.octets.specs.Octets.{Octets, zeros, xor, equal, turn_left, digits, spelt, encode}
use Rattle.octets.proofs.Absurd.{zero_not_one}
use Rattle.functions.specs.Sets.{is_set, sets, test_outputs, base_of, outputs, outputs_of}
use Rattle.functions.specs.SampleRun.{z, keys, amf}
use Rattle.aka.specs.Layout.{Vector, all_zero, vector_at, write_autn, read_autn, write_auts, read_auts}
use Rattle.aka.specs.Layout.{write_vector, read_vector, joined}
use Rattle.aka.specs.Sequence.{width_of, sqn_of}
use Rattle.aka.specs.Editions.{editions, is_edition, row_of}
use Rattle.aka.specs.Usim.{sync_failure, accepted, challenge, verdict_on, judgement, answer_with, valid_usim, lengths_right}
use Rattle.aka.specs.Usim.{mac_right, fresh}
use Rattle.aka.specs.Usim.{highest, lowest_index, all_within, make_auts}
use Rattle.aka.specs.Functions.{dummy_amf}
use Rattle.aka.specs.Auc.{Auc, valid_auc, make_autn, make_vector, batch_from, pair_with, pair_from, lent_for, unless_refused, unless_past}
use Rattle.aka.specs.Auc.{order_outcome, order, lent_auts, in_range, mac_s_right, auts_outcome, resync_outcome, resync}
use Rattle.aka.specs.Auc as auc
use Rattle.aka.specs.Runs.{Event, Stand, ordering, resyncing, challenging, vectors_in, after, run}
use Rattle.aka.specs.Window.{AllProper, Open, beginning}

abbrev auc_with : (edition seqhe next : ℕ) → Auc
auc_with edition seqhe next = record { edition = edition; keys = keys; amf = amf; seqhe = seqhe; next = next }

not_sync : sync_failure ≡ accepted → ⊥
not_sync e = zero_not_one (cc)

-- ---- a foreign number: 500 with index 7 is accepted, and so 8 with index 7 is not

abbrev foreign : Octets
foreign = make_autn (sets.under keys) (encode 6 (sqn_of (width_of editions 2) 500 7)) amf z

abbrev one : Vector
one = vector_at (order editions sets (auc_with 2 7 7) 1 z (zeros 72)).batch 0

abbrev blocked : Stand
blocked = run editions sets (beginning editions sets (auc_with 2 7 7)) (ordering 1 z (zeros 72) ∷ challenging z foreign ∷ [])

foreign_blocks : Open editions sets blocked → ⊥
unfolding is_edition row_of is_set sets test_outputs base_of outputs outputs_of challenge verdict_on judgement answer_with valid_usim
    lengths_right mac_right fresh highest lowest_index all_within all_zero make_autn write_autn read_autn xor equal digits spelt
    pair_from pair_with valid_auc auc.answer_with lent_for unless_refused unless_past order_outcome order batch_from make_vector
    write_vector read_vector joined turn_left vectors_in after run
foreign_blocks is_open =
    not_sync (is_open 0 one refl (omega arith) (λ among. ⊎_elim (λ e. omega (arith, e)) (λ none. none) among) (omega arith)).verdict

-- ---- edition 1: the two vectors of a batch have one index, and once the second is accepted, the first is not

abbrev rands : Octets
rands = zeros 16 ++ (1 ∷ zeros 15)

abbrev vec : ℕ → Vector
vec g = vector_at (order editions sets (auc_with 1 0 0) 2 rands (zeros 144)).batch g

abbrev late_run : List Event
late_run = ordering 2 rands (zeros 144) ∷ challenging (vec 1).rand (vec 1).autn ∷ []

abbrev late : Stand
late = run editions sets (beginning editions sets (auc_with 1 0 0)) late_run

first_blocks : Open editions sets late → ⊥
unfolding is_edition row_of is_set sets test_outputs base_of outputs outputs_of challenge verdict_on judgement answer_with valid_usim
    lengths_right mac_right fresh highest lowest_index all_within all_zero make_autn write_autn read_autn xor equal digits spelt
    pair_from pair_with valid_auc auc.answer_with lent_for unless_refused unless_past order_outcome order batch_from make_vector
    write_vector read_vector joined turn_left vectors_in after run
first_blocks is_open =
    not_sync (is_open 0 (vec 0) refl (omega arith) (λ among. ⊎_elim (λ e. omega (arith, e)) (λ none. none) among) (omega arith)).verdict

-- its other premises are met
first_proper : AllProper editions sets (beginning editions sets (auc_with 1 0 0)) late_run
unfolding is_edition row_of is_set sets test_outputs base_of outputs outputs_of make_autn write_autn read_autn xor equal digits spelt
    pair_from pair_with valid_auc auc.answer_with lent_for unless_refused unless_past order_outcome order batch_from make_vector
    write_vector read_vector joined turn_left vectors_in after AllProper
first_proper = (tt, (λ e. (1, vec 1, refl, refl), tt))

-- ---- a reset between. The highest number that a new card takes, 268435456, has index 0, and is accepted; AUTS of the card as it was new
-- resets the counter to 0; when index 0 comes again, 65 vectors later, its number is 60

abbrev five_rands : Octets
five_rands = zeros 16 ++ (1 ∷ zeros 15) ++ (2 ∷ zeros 15) ++ (3 ∷ zeros 15) ++ (4 ∷ zeros 15)

abbrev five : Event
five = ordering 5 five_rands (zeros 360)

abbrev high : Vector
high = vector_at (order editions sets (auc_with 2 268435455 0) 1 z (zeros 72)).batch 0

abbrev old_auts : Octets
old_auts = make_auts (sets.under keys) (encode 6 0) dummy_amf z

abbrev low : Vector
low = vector_at (order editions sets (auc_with 2 55 60) 5 five_rands (zeros 360)).batch 4

abbrev reset_run : List Event
reset_run =
    five ∷ challenging high.rand high.autn ∷ resyncing 5 five_rands (zeros 360) z old_auts
    ∷ five ∷ five ∷ five ∷ five ∷ five ∷ five ∷ five ∷ five ∷ five ∷ five ∷ five ∷ []

reset_blocks : Open editions sets (run editions sets (beginning editions sets (auc_with 2 268435455 0)) reset_run) → ⊥
unfolding is_edition row_of is_set sets test_outputs base_of outputs outputs_of challenge verdict_on judgement answer_with valid_usim
    lengths_right mac_right fresh highest lowest_index all_within all_zero make_autn write_autn read_autn xor equal digits spelt
    pair_from pair_with valid_auc auc.answer_with lent_for unless_refused unless_past order_outcome order batch_from make_vector
    write_vector read_vector joined turn_left vectors_in after run make_auts write_auts read_auts lent_auts in_range mac_s_right
    auts_outcome resync_outcome resync
reset_blocks is_open =
    not_sync (is_open 64 low refl (omega arith) (λ among. ⊎_elim (λ e. omega (arith, e)) (λ none. none) among) (omega arith)).verdict
