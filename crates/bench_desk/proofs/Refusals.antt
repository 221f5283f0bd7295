-- From a refusal's number to what a step gives. Assumes nothing.
use Prim.Native.Nat.{ℕ}
use mathlib.Core.Bool.{Bool, true, false, cond}
use mathlib.Core.Path.{◌≡◌}
use lib.Dec.{eqb}
use Rattle.std.specs.Prelude.{Some, None}
use Rattle.bench_desk.specs.Desk.{Desk, DeskAnswer, given_number, refused_by, refused_or}

module _ (desk : Desk) (rest : DeskAnswer) (m : ℕ) where
  pub refusal : {n : ℕ} → Some n ≡ given_number m → refused_by desk n ≡ refused_or desk m rest
  unfolding refused_or
  refusal {n} e = go (eqb m 0) e
    where
      go : (b : Bool) → Some n ≡ cond b None (Some m) → refused_by desk n ≡ cond b rest (refused_by desk m)
      go true h = absurd (cc)
      go false h = cc

  pub no_refusal : None ≡ given_number m → rest ≡ refused_or desk m rest
  unfolding refused_or
  no_refusal e = go (eqb m 0) e
    where
      go : (b : Bool) → None ≡ cond b None (Some m) → rest ≡ cond b rest (refused_by desk m)
      go true h = cc
      go false h = absurd (cc)

pub ruleset refusals = (refusal, no_refusal)
