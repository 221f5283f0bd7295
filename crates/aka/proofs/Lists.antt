-- What is true of each element of a list. Assumes nothing.
use mathlib.Core.List.{List, [], ◌∷◌}
use Rattle.aka.specs.Demand3.{Each}

pub each_map : {A : Type 0} (P Q : A → Type 0) → ((x : A) → P x → Q x) → (l : List A) → Each P l → Each Q l
each_map P Q f [] e = tt
each_map P Q f (x ∷ rest) e = (f x e.0, each_map P Q f rest e.1)
