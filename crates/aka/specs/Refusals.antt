-- The code's refusals by document 01's numbers. Assumes nothing: these are definitions.
use Rattle.std.specs.Prelude.{ℕ, Result, Ok, Err}
use Rattle.aka.specs.declared.Refusal.{Refusal}
use Rattle.aka.specs.declared.Refusal.TheVariants.{Invalid, Count, Length, SameRand, MacS, Limit, State, Empty, Full}

abbrev pub number_of : Refusal → ℕ
number_of Invalid = 1
number_of Count = 2
number_of Length = 3
number_of SameRand = 4
number_of MacS = 5
number_of Limit = 6
number_of State = 7
number_of Empty = 8
number_of Full = 9

-- the number that an answer stands for, 0 where it is no refusal
abbrev pub refusal_in : {A : Type 0} → Result A Refusal → ℕ
refusal_in (Ok _) = 0
refusal_in (Err refusal) = number_of refusal
