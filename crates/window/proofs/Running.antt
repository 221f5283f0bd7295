-- The window of the running code, from `aka`'s: the answers of the code are those of the definitions. Assumes nothing.
use Prim.Native.Nat.{ℕ, ◌≤◌}
use mathlib.Core.Bool.{true}
use mathlib.Core.List.{List, [], ◌∷◌, map}
use mathlib.Core.Logic.{◌⊎◌, inl, inr, ⊎_elim}
use mathlib.Core.Path.{◌≡◌, refl, sym, ap, ◌∙◌, subst}
use Rattle.octets.specs.Octets.{Octets}
use Rattle.functions.specs.Sets.{sets}
use Rattle.functions.proofs.Protocol.{window_holds}
use Rattle.aka.specs.Layout.{Vector}
use Rattle.aka.specs.Editions.{editions}
use Rattle.aka.specs.Usim.{Usim, UsimAnswer, Verdict, accepted, mac_failure, sync_failure, refused}
use Rattle.aka.specs.Auc.{AucAnswer, AucShaped, valid_auc}
use Rattle.aka.specs.Runs.{At, taken_with, sqn_with}
use Rattle.aka.specs.Runs as aka
use Rattle.aka.specs.Window.{AcceptedAs}
use Rattle.aka.specs.Window as claim
use Rattle.usim_record.specs.declared.Usim as code
use Rattle.usim_record.specs.Views.{usim_of, verdict_of, sqn_due, sqn_given}
use Rattle.auc_record.specs.declared.Auc.{Auc}
use Rattle.auc_record.specs.Views.{auc_of}
use Rattle.window.specs.Running.{Happening, ordered, resynced, challenged, Stand, after, Happened, Proper, Ran, end, Open}
use Rattle.window.specs.Running.{NewFor, start_with, Window}

-- ---- the run as the definitions have it

abbrev stand_of : Stand → aka.Stand
stand_of s = record { usim = usim_of s.usim; auc = auc_of s.auc; given = s.given; taken = s.taken }

abbrev event_of : Happening → aka.Event
event_of (ordered count rands buffer a batch) = aka.ordering count rands buffer
event_of (resynced count rands buffer rand auts a batch) = aka.resyncing count rands buffer rand auts
event_of (challenged rand autn a) = aka.challenging rand autn

-- the SQN that is told is the one that AUTN carries
taken_same : (v : Verdict) (x : ℕ) (usim : Usim) (rand autn : Octets) (taken : List ℕ) → x ≡ sqn_due v usim rand autn
    → taken_with v x taken ≡ taken_with v (sqn_with (sets.under usim.keys) rand autn) taken
taken_same accepted x usim rand autn taken e = ap (λ (y : ℕ). y ∷ taken) e
taken_same mac_failure x usim rand autn taken e = refl
taken_same sync_failure x usim rand autn taken e = refl
taken_same (refused number) x usim rand autn taken e = refl

same_after : (s : Stand) (h : Happening) → Happened s h → stand_of (after s h) ≡ aka.after editions sets (stand_of s) (event_of h)
unfolding aka.after
same_after s (ordered count rands buffer a batch) was = ap (λ (x : AucAnswer). aka.after_centre (stand_of s) x) was.answer_is
same_after s (resynced count rands buffer rand auts a batch) was =
    ap (λ (x : AucAnswer). aka.after_centre (stand_of s) x) was.answer_is
same_after s (challenged rand autn a) was =
    let sqn = aka.sqn_asked editions sets (stand_of s) rand autn in
    let same = taken_same (verdict_of a.verdict) (sqn_given a.verdict) (usim_of s.usim) rand autn s.taken was.sqn_told.0 in
    (λ i. record { usim = usim_of a.usim; auc = auc_of s.auc; given = s.given; taken = same i })
    ∙ ap (λ (x : UsimAnswer). aka.after_card (stand_of s) sqn x) was.answer_is

same_end : (s : Stand) (happenings : List Happening) → Ran s happenings
    → stand_of (end s happenings) ≡ aka.run editions sets (stand_of s) (map event_of happenings)
unfolding Ran end aka.run
same_end s [] ran = refl
same_end s (h ∷ rest) ran =
    same_end (after s h) rest ran.2
    ∙ ap (λ (x : aka.Stand). aka.run editions sets x (map event_of rest)) (same_after s h ran.0)

-- ---- its premises

proper_of : (s : Stand) (h : Happening) → Happened s h → Proper s h → claim.Proper editions sets (stand_of s) (event_of h)
proper_of s (ordered count rands buffer a batch) was proper = tt
proper_of s (resynced count rands buffer rand auts a batch) was proper = λ e.
    proper (ap (λ (x : AucAnswer). x.outcome) was.answer_is ∙ e)
proper_of s (challenged rand autn a) was proper = λ e.
    let told = ap (λ (x : UsimAnswer). x.verdict) was.answer_is ∙ e in
    let from = proper told in
    let due = was.sqn_told.0 ∙ ap (λ (v : Verdict). sqn_due v (usim_of s.usim) rand autn) told in
    (from.0, from.1, from.2, from.3 ∙ due)

all_proper : (s : Stand) (happenings : List Happening) → Ran s happenings
    → claim.AllProper editions sets (stand_of s) (map event_of happenings)
unfolding Ran claim.AllProper
all_proper s [] ran = tt
all_proper s (h ∷ rest) ran = (
  proper_of s h ran.0 ran.1,
  subst (λ (x : aka.Stand). claim.AllProper editions sets x (map event_of rest)) (same_after s h ran.0)
      (all_proper (after s h) rest ran.2),
)

-- the parts of the centre's record have their lengths, where it was asked at all
first_shape : (s : Stand) (happenings : List Happening) → Ran s happenings → s.given ≡ []
    → AucShaped (auc_of s.auc) ⊎ ((end s happenings).given ≡ [])
unfolding Ran end
first_shape s [] ran none = inr none
first_shape s (ordered count rands buffer a batch ∷ rest) ran none = inl ran.0.shape
first_shape s (resynced count rands buffer rand auts a batch ∷ rest) ran none = inl ran.0.shape
first_shape s (challenged rand autn a ∷ rest) ran none = first_shape (after s (challenged rand autn a)) rest ran.2 none

-- ---- the theorem

module _ (auc : Auc) (valid : valid_auc editions sets (auc_of auc) ≡ true) (late : 2 ≤ auc.edition)
    (usim : code.Usim) (new : NewFor auc usim) (happenings : List Happening) (ran : Ran (start_with usim auc) happenings) where
  abbrev last : Stand
  last = end (start_with usim auc) happenings

  -- the definitions' start is the code's
  begins : stand_of (start_with usim auc) ≡ claim.beginning editions sets (auc_of auc)
  begins = λ i. record { usim = new i; auc = auc_of auc; given = []; taken = [] }

  of_definitions : AucShaped (auc_of auc) → claim.Open editions sets (stand_of last)
  of_definitions shaped =
      let events = map event_of happenings in
      let proper =
      subst (λ (s : aka.Stand). claim.AllProper editions sets s events) begins (all_proper (start_with usim auc) happenings ran) in
      subst (λ (s : aka.Stand). claim.Open editions sets s)
      (sym (same_end (start_with usim auc) happenings ran ∙ ap (λ (s : aka.Stand). aka.run editions sets s events) begins))
      (window_holds (auc_of auc) shaped valid late events proper)

  opened : Open last
  opened g v at near free within answer was = ⊎_elim
      (λ (shaped : AucShaped (auc_of auc)).
      subst (λ (a : UsimAnswer). AcceptedAs v a) (sym was.answer_is) (of_definitions shaped g v at near free within))
      (λ (none : last.given ≡ []). absurd (subst (λ (l : List Vector). At l g v) none at))
      (first_shape (start_with usim auc) happenings ran refl)

pub window : Window
window = opened
