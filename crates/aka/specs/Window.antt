-- The window (document 02, #104): 'on a new card equal to the centre in each field both have and given only its numbers, from a counter
-- never reset, each of the last 50 generated and not yet presented is accepted if within D'. Source document 001 lets a number among the
-- last 50 generated still be accepted. Assumes nothing.
use Rattle.std.specs.Prelude.{ℕ, ◌+◌, ◌≤◌, Bool, true, List, [], ◌∷◌, ◌≡◌, length}
use Rattle.octets.specs.Octets.{Octets}
use Rattle.aka.specs.Layout.{Vector}
use Rattle.aka.specs.Functions.{Functions, Family, Lawful}
use Rattle.aka.specs.Sequence.{D, Scheme, Fitting, width_of, indices}
use Rattle.aka.specs.Usim.{UsimAnswer, accepted, challenge, new_usim, seq_ms}
use Rattle.aka.specs.Auc.{Auc, AucShaped, reset, resync, valid_auc}
use Rattle.aka.specs.Demand3.{vector_seq}
use Rattle.aka.specs.Runs.{Event, ordering, resyncing, challenging, Stand, start_with, At, Among, sqn_asked, vector_sqn, after, run}

-- how many of the numbers generated last
abbrev pub span : ℕ
span = 50

-- an edition whose index goes up for each vector, and comes again only after more than these
pub record Wide (scheme : Scheme) (edition : ℕ) : Type 0 where
  pub each : (scheme.numbering edition).per_vector ≡ true
  pub enough : span ≤ indices (width_of scheme edition)

-- a challenge is accepted with the XRES, CK and IK of its vector
pub record AcceptedAs (v : Vector) (answer : UsimAnswer) : Type 0 where
  pub verdict : answer.verdict ≡ accepted
  pub res : answer.res ≡ v.xres
  pub ck : answer.ck ≡ v.ck
  pub ik : answer.ik ≡ v.ik

module _ (scheme : Scheme) (family : Family) where
  -- the SQN is that of a vector that was given before
  abbrev pub Given : Stand → (sqn : ℕ) → Type 0
  Given s sqn = (g : ℕ) × (v : Vector) × At s.given g v × (vector_sqn (family.under s.usim.keys) v ≡ sqn)

  -- 'given only its numbers, from a counter never reset': a number that the card accepts was given by this centre before, and no
  -- resynchronisation resets. Whatever else comes is not restricted
  abbrev pub Proper : Stand → Event → Type 0
  Proper s (ordering count rands buffer) = Unit {0}
  Proper s (resyncing count rands buffer rand auts) = (resync scheme family s.auc count rands buffer rand auts).outcome ≡ reset → ⊥
  Proper s (challenging rand autn) =
      (challenge scheme family s.usim rand autn).verdict ≡ accepted → Given s (sqn_asked scheme family s rand autn)

  -- each event of a run
  unfoldable pub AllProper : Stand → List Event → Type 0
  AllProper s [] = Unit {0}
  AllProper s (e ∷ rest) = Proper s e × AllProper (after scheme family s e) rest

  -- each of the last generated, not accepted yet, is accepted if within D
  abbrev pub Open : Stand → Type 0
  Open s =
      let F = family.under s.usim.keys in
      (g : ℕ) (v : Vector) → At s.given g v → length s.given ≤ g + span
      → (Among (vector_sqn F v) s.taken → ⊥)
      → vector_seq (width_of scheme s.usim.edition) F v ≤ seq_ms s.usim + D
      → AcceptedAs v (challenge scheme family s.usim v.rand v.autn)

  -- a new card with the centre's edition, set, K and OPc
  abbrev pub beginning : Auc → Stand
  beginning auc = start_with (new_usim scheme auc.edition auc.keys) auc

-- of any valid record of the centre, and after every run
abbrev pub Window : Type 0
Window = (scheme : Scheme) → Fitting scheme → (family : Family) → Lawful family
    → (auc : Auc) → AucShaped auc → valid_auc scheme family auc ≡ true → Wide scheme auc.edition
    → (events : List Event) → AllProper scheme family (beginning scheme family auc) events
    → Open scheme family (run scheme family (beginning scheme family auc) events)
