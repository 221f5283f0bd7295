-- A chain of tests of which the first that fails decides: `cond (not test) refusal (cond (not test) refusal (.. answer))`. Assumes nothing.
use mathlib.Core.Bool.{Bool, true, false, not, cond}
use mathlib.Core.Path.{◌≡◌, refl}

-- where something else than the refusal is answered, the test passed, and what stands behind it was answered; again for the next test
pub passed : {A : Type 0} (test : Bool) {refusal behind answer : A} → (refusal ≡ answer → ⊥) → cond (not test) refusal behind ≡ answer
    → (test ≡ true) × (behind ≡ answer)
passed true other e = (refl, e)
passed false other e = absurd (other e)
