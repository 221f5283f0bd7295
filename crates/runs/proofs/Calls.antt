-- What a list of calls says of two that follow each other. Assumes nothing.
use mathlib.Core.List.{List, ◌∷◌}
use Rattle.usim_record.specs.declared.Usim.{Usim}
use Rattle.runs.specs.Promises.{Answered}
use Rattle.runs.specs.Calls.{Call, Chain}

-- the second is answered on the record that the first returned
pub handed_on : (usim : Usim) (first second : Call) (rest : List Call) → Chain usim (first ∷ second ∷ rest)
    → Answered first.answer.usim second.rand second.autn second.answer
unfolding Chain
handed_on usim first second rest chain = chain.1.0
