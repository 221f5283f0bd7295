-- The code's values as the protocol has them, and what the code knows on its way to an answer. Assumes nothing: these are definitions.
use Rattle.std.specs.Prelude.{cond}
use Rattle.octets.specs.Octets.{Octets, zeros}
use Rattle.aka.specs.Layout.{auts_size, write_answer}
use Rattle.aka.specs.Usim.{Usim, UsimAnswer}
use Rattle.aka.specs.Handset.{Outcome, Told, handed_on}
use Rattle.usim_record.specs.Views.{usim_of}
use Rattle.handset_store.specs.Views.{outcome_of, is_accepted}
use Rattle.handset.specs.declared.Told as declared

-- the answer, with what the fresh octets have then
abbrev pub told_of : declared.Told → (fresh : Octets) → Told
told_of a fresh = record { outcome = outcome_of a.outcome; usim = usim_of a.usim; auts = a.auts; fresh = fresh }

-- what the card has said; the fresh octets are written where it accepts
abbrev pub asked_with : UsimAnswer → (fresh : Octets) → Told
asked_with a fresh = record {
  outcome = handed_on a.verdict;
  usim = a.usim;
  auts = a.auts;
  fresh = cond (is_accepted (handed_on a.verdict)) (write_answer a.res a.ck a.ik) fresh;
}

-- the card is not asked: nothing changes
abbrev pub unasked : Outcome → Usim → (fresh : Octets) → Told
unasked outcome usim fresh = record { outcome = outcome; usim = usim; auts = zeros auts_size; fresh = fresh }
