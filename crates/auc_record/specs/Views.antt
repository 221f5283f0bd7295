-- The code's values as the protocol has them. Assumes nothing: these are definitions.
use Rattle.std.specs.Prelude.{ℕ, Option, Some, None}
use Rattle.octets.specs.Octets.{Octets}
use Rattle.functions.specs.Challenge.{keys_of}
use Rattle.aka.specs.Auc as aka
use Rattle.auc_record.specs.declared.Auc as declared_auc
use Rattle.auc_record.specs.declared.Answer as declared_answer
use Rattle.auc_record.specs.declared.Outcome.{Outcome}
use Rattle.auc_record.specs.declared.Outcome.TheVariants.{Given, Kept, Reset, Refused, Repeated}

-- the record
abbrev pub auc_of : declared_auc.Auc → aka.Auc
auc_of a = record { edition = a.edition; keys = keys_of a.keys; amf = a.amf; seqhe = a.seqhe; next = a.next }

-- the outcome; `aka.refusal_of`, `aka.first_of` and `aka.second_of` have its number and its pair
abbrev pub outcome_of : Outcome → aka.Outcome
outcome_of Given = aka.given
outcome_of Kept = aka.kept
outcome_of Reset = aka.reset
outcome_of (Refused number) = aka.refused number
outcome_of (Repeated i j) = aka.repeated i j

-- the whole answer, with what the buffer lent for the batch holds at the end
abbrev pub answer_of : declared_answer.Answer → (batch : Octets) → aka.AucAnswer
answer_of a batch = record { outcome = outcome_of a.outcome; n = a.n; auc = auc_of a.auc; batch = batch }

-- the pair that was found
abbrev pub pair_of : Option (ℕ × ℕ) → aka.Pair
pair_of None = aka.unequal
pair_of (Some (i, j)) = aka.equal_at i j
