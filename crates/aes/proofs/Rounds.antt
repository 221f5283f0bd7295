-- The loop of rounds: what one more round does, once over its number. Assumes nothing.
use Prim.Native.Nat.{ℕ, suc, ◌+◌, ◌-◌, ◌≤◌}
use mathlib.Core.Path.{◌≡◌, ap, ◌∙◌}
use mathlib.Core.List.{List}
use native.Mathlib.Omega.{arith}
use native.Mathlib.Numerals.{add-one}
use Rattle.octets.specs.Octets.{Octets}
use Rattle.aes.specs.Cipher.{one_round, rounds}

one_more : (w : List ℕ) (s₀ s q : Octets) (n : ℕ) → s ≡ rounds w n s₀ → q ≡ one_round w (n + 1) s → q ≡ rounds w (n + 1) s₀
unfolding rounds
one_more w s₀ s q n e f = f ∙ rw add-one (ap (one_round w (suc n)) e)

pub next_round : (w : List ℕ) (s₀ s q : Octets) (round : ℕ) → 1 ≤ round
    → s ≡ rounds w (round - 1) s₀ → q ≡ one_round w round s → q ≡ rounds w (round + 1 - 1) s₀
next_round w s₀ s q round first e f =
    let here : round - 1 + 1 ≡ round = omega arith in
    let next : round + 1 - 1 ≡ round = omega arith in
    rw (next, ← here) (one_more w s₀ s q (round - 1) e (rw here f))
