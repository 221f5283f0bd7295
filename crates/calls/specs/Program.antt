-- What is promised of the program: every line has one answer, in order, and each is given with the node that the one before left. What
-- the answer to a call is, is compared and not proved. Assumes nothing: these are definitions.
use Rattle.std.specs.Prelude.{ℕ, ◌≤◌}
use Rattle.aka.specs.Vlr.{Vlr, new_vlr}
use Rattle.console.specs.Turns.{Answering, Claim}

-- any text, and any next node
abbrev pub AnyAnswer : Answering Vlr
AnyAnswer node line text after = Unit {0}

abbrev pub Serves : Type 0
Serves = (size room : ℕ) → 1 ≤ size → Claim AnyAnswer new_vlr size room
