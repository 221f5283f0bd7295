-- What the code knows on its way to the USIM's answer. Assumes nothing: these are definitions.
use Rattle.std.specs.Prelude.{ℕ, true, ◌≡◌}
use Rattle.octets.specs.Octets.{Octets, decode}
use Rattle.functions.specs.declared.PreparedRand.{PreparedRand}
use Rattle.functions.specs.PreparedRand.{Prepared}
use Rattle.functions.specs.Sets.{sets}
use Rattle.aka.specs.Functions.{Keys}
use Rattle.aka.specs.Sequence.{FitsSqn}
use Rattle.aka.specs.Editions.{editions}
use Rattle.aka.specs.Usim.{Usim, Verdict, sqn_in, mac_right, answer_with}
use Rattle.usim_record.specs.declared.Answer.{Answer}
use Rattle.usim_record.specs.Views.{answer_of, SqnTold}

-- MAC is right, and SQN and RES are those of the challenge
pub record MacVerified (keys : Keys) (rand autn : Octets) (p : PreparedRand) (n : ℕ) (r : Octets) : Type 0 where
  pub prepared : Prepared keys rand p
  pub mac : mac_right (sets.under keys) rand autn ≡ true
  pub sqn : n ≡ decode (sqn_in (sets.under keys) rand autn)
  pub fits : FitsSqn n
  pub res : r ≡ (sets.under keys).f2 rand

-- the code's whole answer is the one that goes with a verdict
pub record AnswerFor (usim : Usim) (rand autn : Octets) (verdict : Verdict) (r : Answer) : Type 0 where
  pub answer : answer_of r ≡ answer_with editions sets usim rand autn verdict
  pub sqn : SqnTold r.verdict usim rand autn
