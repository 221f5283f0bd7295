-- The code's values as the protocol has them. Assumes nothing: these are definitions.
use Rattle.std.specs.Prelude.{ℕ, ◌≡◌}
use Rattle.octets.specs.Octets.{Octets, decode}
use Rattle.functions.specs.Challenge.{keys_of}
use Rattle.functions.specs.Sets.{sets}
use Rattle.aka.specs.Sequence.{FitsSqn}
use Rattle.aka.specs.Usim as aka
use Rattle.usim_record.specs.declared.Usim as declared_usim
use Rattle.usim_record.specs.declared.Answer as declared_answer
use Rattle.usim_record.specs.declared.Verdict.{Verdict}
use Rattle.usim_record.specs.declared.Verdict.TheVariants.{Accepted, Sync, Mac, Refused}

-- the record
abbrev pub usim_of : declared_usim.Usim → aka.Usim
usim_of u = record { edition = u.edition; keys = keys_of u.keys; places = u.places }

-- the verdict; `aka.refusal_of` has its number
abbrev pub verdict_of : Verdict → aka.Verdict
verdict_of (Accepted sqn) = aka.accepted
verdict_of Sync = aka.sync_failure
verdict_of Mac = aka.mac_failure
verdict_of (Refused number) = aka.refused number

-- the SQN that an acceptance gives, else 0
abbrev pub sqn_given : Verdict → ℕ
sqn_given (Accepted sqn) = sqn
sqn_given Sync = 0
sqn_given Mac = 0
sqn_given (Refused number) = 0

-- the whole answer, but for the SQN
abbrev pub answer_of : declared_answer.Answer → aka.UsimAnswer
answer_of a = record {
  verdict = verdict_of a.verdict;
  usim = usim_of a.usim;
  res = a.res;
  ck = a.ck;
  ik = a.ik;
  auts = a.auts;
}

-- the SQN that is due with a verdict: that of AUTN with an acceptance, else 0
abbrev pub sqn_due : aka.Verdict → aka.Usim → (rand autn : Octets) → ℕ
sqn_due aka.accepted usim rand autn = decode (aka.sqn_in (sets.under usim.keys) rand autn)
sqn_due aka.mac_failure usim rand autn = 0
sqn_due aka.sync_failure usim rand autn = 0
sqn_due (aka.refused number) usim rand autn = 0

-- the SQN that a verdict gives is the one that is due, and it is a number of 48 bits
abbrev pub SqnTold : Verdict → aka.Usim → (rand autn : Octets) → Type 0
SqnTold verdict usim rand autn = (sqn_given verdict ≡ sqn_due (verdict_of verdict) usim rand autn) × FitsSqn (sqn_given verdict)
