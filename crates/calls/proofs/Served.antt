-- Every line has its answer. Assumes nothing.
use Rattle.aka.specs.Vlr.{new_vlr}
use Rattle.console.proofs.Runs.{claim}
use Rattle.calls.specs.Program.{AnyAnswer, Serves}

pub serves : Serves
serves size room some = claim AnyAnswer new_vlr size room some
