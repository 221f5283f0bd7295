-- A list of calls of the card, each with the record that the one before returned. Assumes nothing: these are definitions.
use Rattle.std.specs.Prelude.{List, [], ◌∷◌}
use Rattle.octets.specs.Octets.{Octets}
use Rattle.aka.specs.Demand3 as aka
use Rattle.usim_record.specs.declared.Usim.{Usim}
use Rattle.usim_record.specs.declared.Answer as card
use Rattle.runs.specs.Promises.{Answered}

-- a call of the card, with a RAND and AUTN of any octets, and its answer
pub record Call : Type 0 where
  pub rand : Octets
  pub autn : Octets
  pub answer : card.Answer

-- each call gets the record that the one before returned
unfoldable pub Chain : Usim → List Call → Type 0
Chain usim [] = Unit {0}
Chain usim (call ∷ rest) = Answered usim call.rand call.autn call.answer × Chain call.answer.usim rest

abbrev pub call_of : Call → aka.Call
call_of call = record { rand = call.rand; autn = call.autn }
