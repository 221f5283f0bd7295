-- The window of the running code. `aka` `Window` states it of the definitions; here it names the records that `usim::challenge`,
-- `auc::order` and `auc::resynchronise` take and return, for the editions and the function sets that they use. Assumes nothing.
use Rattle.std.specs.Prelude.{ℕ, ◌+◌, ◌≤◌, true, List, [], ◌∷◌, ◌++◌, ◌≡◌, length}
use Rattle.octets.specs.Octets.{Octets}
use Rattle.functions.specs.Sets.{sets}
use Rattle.functions.specs.Challenge.{keys_of}
use Rattle.aka.specs.Layout.{Vector}
use Rattle.aka.specs.Functions.{Functions}
use Rattle.aka.specs.Sequence.{D, width_of}
use Rattle.aka.specs.Editions.{editions}
use Rattle.aka.specs.Usim.{accepted, new_usim, seq_ms}
use Rattle.aka.specs.Auc.{reset, valid_auc}
use Rattle.aka.specs.Demand3.{vector_seq}
use Rattle.aka.specs.Runs.{At, Among, vectors_in, vector_sqn, taken_with}
use Rattle.aka.specs.Window.{span, AcceptedAs}
use Rattle.usim_record.specs.declared.Usim.{Usim}
use Rattle.usim_record.specs.declared.Answer as card
use Rattle.usim_record.specs.Views as card_views
use Rattle.auc_record.specs.declared.Auc.{Auc}
use Rattle.auc_record.specs.declared.Answer as centre
use Rattle.auc_record.specs.Views as centre_views
use Rattle.runs.specs.Promises.{Answered, Ordered, Resynchronised}

-- a call with whatever was lent to it, and its answer; `batch` is what the buffer held at the end
pub data Happening : Type 0 where
  ordered : (count : ℕ) (rands buffer : Octets) (answer : centre.Answer) (batch : Octets) → Happening
  resynced : (count : ℕ) (rands buffer rand auts : Octets) (answer : centre.Answer) (batch : Octets) → Happening
  challenged : (rand autn : Octets) (answer : card.Answer) → Happening

-- where a run stands
pub record Stand : Type 0 where
  pub usim : Usim
  pub auc : Auc
  pub given : List Vector  -- the vectors that the centre has given so far, in order
  pub taken : List ℕ  -- the SQNs that the card has told as accepted

abbrev pub functions_of : Stand → Functions
functions_of s = sets.under (keys_of s.usim.keys)

-- what a call leaves: the records that it returned
abbrev pub after : Stand → Happening → Stand
after s (ordered count rands buffer a batch) = record {
  usim = s.usim;
  auc = a.auc;
  given = s.given ++ vectors_in a.n batch;
  taken = s.taken;
}
after s (resynced count rands buffer rand auts a batch) = record {
  usim = s.usim;
  auc = a.auc;
  given = s.given ++ vectors_in a.n batch;
  taken = s.taken;
}
after s (challenged rand autn a) = record {
  usim = a.usim;
  auc = s.auc;
  given = s.given;
  taken = taken_with (card_views.verdict_of a.verdict) (card_views.sqn_given a.verdict) s.taken;
}

-- the answer is one that the contract allows
abbrev pub Happened : Stand → Happening → Type 0
Happened s (ordered count rands buffer a batch) = Ordered s.auc count rands buffer a batch
Happened s (resynced count rands buffer rand auts a batch) = Resynchronised s.auc count rands buffer rand auts a batch
Happened s (challenged rand autn a) = Answered s.usim rand autn a

-- no answer was a reset, and an SQN that the card accepted had been given by this centre before
abbrev pub Proper : Stand → Happening → Type 0
Proper s (ordered count rands buffer a batch) = Unit {0}
Proper s (resynced count rands buffer rand auts a batch) = centre_views.outcome_of a.outcome ≡ reset → ⊥
Proper s (challenged rand autn a) = card_views.verdict_of a.verdict ≡ accepted
    → (g : ℕ) × (v : Vector) × At s.given g v × (vector_sqn (functions_of s) v ≡ card_views.sqn_given a.verdict)

-- a whole run
unfoldable pub Ran : Stand → List Happening → Type 0
Ran s [] = Unit {0}
Ran s (h ∷ rest) = Happened s h × Proper s h × Ran (after s h) rest

unfoldable pub end : Stand → List Happening → Stand
end s [] = s
end s (h ∷ rest) = end (after s h) rest

-- each of the last generated, not accepted yet, is accepted if within D, whichever answer the contract allows
abbrev pub Open : Stand → Type 0
Open s = (g : ℕ) (v : Vector) → At s.given g v → length s.given ≤ g + span
    → (Among (vector_sqn (functions_of s) v) s.taken → ⊥)
    → vector_seq (width_of editions s.usim.edition) (functions_of s) v ≤ seq_ms (card_views.usim_of s.usim) + D
    → (answer : card.Answer) → Answered s.usim v.rand v.autn answer → AcceptedAs v (card_views.answer_of answer)

-- a new card with the centre's edition, set, K and OPc: what the contract of `usim::new` says of it
abbrev pub NewFor : Auc → Usim → Type 0
NewFor auc usim = card_views.usim_of usim ≡ new_usim editions auc.edition (keys_of auc.keys)

abbrev pub start_with : Usim → Auc → Stand
start_with usim auc = record { usim = usim; auc = auc; given = []; taken = [] }

-- from edition 2 on, from any valid record of the centre, and after every run
abbrev pub Window : Type 0
Window = (auc : Auc) → valid_auc editions sets (centre_views.auc_of auc) ≡ true → 2 ≤ auc.edition
    → (usim : Usim) → NewFor auc usim
    → (happenings : List Happening) → Ran (start_with usim auc) happenings
    → Open (end (start_with usim auc) happenings)
