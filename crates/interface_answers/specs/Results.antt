-- What a call of the C interface returns: one number. Its low 8 bits are 0 for done, document 01's refusal number, or the cause of a
-- failure; above them stands the value that goes with it, 0 where none is named. Assumes nothing: these are definitions.
use Rattle.std.specs.Prelude.{ℕ, ◌+◌, ◌*◌, Result, Ok, Err}
use Rattle.aka.specs.Refusals.{number_of}
use Rattle.aka.specs.declared.Refusal.{Refusal}
use Rattle.aka.specs.Usim as card
use Rattle.aka.specs.Auc as centre

-- two numbers in one: the first in the low 8 bits, the second above them
abbrev pub both : (low high : ℕ) → ℕ
both low high = low + 256 * high

-- the causes of TS 24.008
abbrev pub mac_cause : ℕ
mac_cause = 20

abbrev pub synch_cause : ℕ
synch_cause = 21

-- an acceptance has its SQN
abbrev pub verdict_result : card.Verdict → (sqn : ℕ) → ℕ
verdict_result card.accepted sqn = both 0 sqn
verdict_result card.mac_failure sqn = mac_cause
verdict_result card.sync_failure sqn = synch_cause
verdict_result (card.refused number) sqn = number

-- a resynchronisation has 0 where SEQ_HE was kept and 1 where it was reset; refusal 4 has its pair
abbrev pub outcome_result : centre.Outcome → ℕ
outcome_result centre.given = 0
outcome_result centre.kept = both 0 0
outcome_result centre.reset = both 0 1
outcome_result (centre.refused number) = number
outcome_result (centre.repeated i j) = both 4 (both i j)

-- the number that is answered, or the refusal's
abbrev pub returned_of : Result ℕ Refusal → ℕ
returned_of (Ok number) = number
returned_of (Err refusal) = number_of refusal
