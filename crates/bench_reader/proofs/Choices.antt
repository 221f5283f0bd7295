-- A line that begins with a word has room for it. Assumes nothing.
use Prim.Native.Nat.{ℕ, ◌≤◌}
use mathlib.Core.Bool.{true, false≢true, and-eq-true_iff}
use mathlib.Core.List.{List, [], ◌∷◌}
use mathlib.Core.Path.{◌≡◌}
use native.Mathlib.Omega.{arith}
use lib.Dec.{eqb}
use lib.ListN.{length}
use Rattle.fields.specs.Fields.{begins}

-- a line is at least as long as the word that it begins with
pub begins_length : (word line : List ℕ) → begins word line ≡ true → length word ≤ length line
unfolding begins
begins_length [] line e = omega arith
begins_length (c ∷ word) [] e = absurd (false≢true e)
begins_length (c ∷ word) (d ∷ line) e = omega (arith, begins_length word line ((and-eq-true_iff (eqb d c) (begins word line)).0 e).1)
