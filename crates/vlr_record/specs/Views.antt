-- The code's values as the protocol has them. Assumes nothing: these are definitions.
use Rattle.aka.specs.Vlr as aka
use Rattle.vlr_record.specs.declared.Vlr as declared_vlr
use Rattle.vlr_record.specs.declared.Reply.{Reply}
use Rattle.vlr_record.specs.declared.State.{State}
use Rattle.vlr_record.specs.declared.State.TheVariants.{Idle, Asked, Resyncing}
use Rattle.vlr_record.specs.declared.Outcome.{Outcome}
use Rattle.vlr_record.specs.declared.Outcome.TheVariants.{Done, Passed, Cause, Refused}

abbrev pub state_of : State → aka.State
state_of Idle = aka.idle
state_of Asked = aka.asked
state_of Resyncing = aka.resyncing

-- the record
abbrev pub vlr_of : declared_vlr.Vlr → aka.Vlr
vlr_of v = record { state = state_of v.state; held = v.held; queue = v.queue; out = v.out }

-- `aka.refusal_of` and `aka.cause_of` have its numbers
abbrev pub outcome_of : Outcome → aka.Outcome
outcome_of Done = aka.done
outcome_of Passed = aka.passed
outcome_of (Cause number) = aka.cause number
outcome_of (Refused number) = aka.refused number

-- the whole answer
abbrev pub answer_of : Reply → aka.VlrAnswer
answer_of r = record {
  outcome = outcome_of r.outcome;
  vlr = vlr_of r.vlr;
  rand = r.rand;
  autn = r.autn;
  auts = r.auts;
  ck = r.ck;
  ik = r.ik;
  kc = r.kc;
}
