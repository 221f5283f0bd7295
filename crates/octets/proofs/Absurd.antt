-- What cannot be. Assumes nothing.
use Prim.Native.Nat.{ℕ}
use mathlib.Core.Path.{◌≡◌}
use native.Mathlib.Omega.{arith}

-- for two unlike constructors: `zero_not_one (cc)` where an equation of them is in scope
pub zero_not_one : {A : Type 0} → ◌≡◌ {A = ℕ} 0 1 → A
zero_not_one e = absurd (omega arith)
