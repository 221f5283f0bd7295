-- One card and one centre over a run of calls, in which each call takes the record that the one before returned (document 02, #104): what
-- the centre has given and what the card has accepted. Assumes nothing.
use Rattle.std.specs.Prelude.{ℕ, zero, suc, List, [], ◌∷◌, ◌++◌, ◌⊎◌, ◌≡◌}
use Rattle.octets.specs.Octets.{Octets, decode}
use Rattle.aka.specs.Layout.{Vector, vector_at}
use Rattle.aka.specs.Functions.{Functions, Family}
use Rattle.aka.specs.Sequence.{Scheme}
use Rattle.aka.specs.Usim.{Usim, UsimAnswer, Verdict, accepted, mac_failure, sync_failure, refused, challenge, sqn_in}
use Rattle.aka.specs.Auc.{Auc, AucAnswer, order, resync}

-- a call, with whatever is lent to it
pub data Event : Type 0 where
  ordering : (count : ℕ) (rands buffer : Octets) → Event
  resyncing : (count : ℕ) (rands buffer rand auts : Octets) → Event
  challenging : (rand autn : Octets) → Event

-- where a run stands
pub record Stand : Type 0 where
  pub usim : Usim
  pub auc : Auc
  pub given : List Vector  -- the vectors that the centre has given so far, in order
  pub taken : List ℕ  -- the SQNs that the card has accepted so far

-- before the first call
abbrev pub start_with : Usim → Auc → Stand
start_with usim auc = record { usim = usim; auc = auc; given = []; taken = [] }

-- ---- lists

-- x is at place g of a list, counted from 0
abbrev pub At : {A : Type 0} → List A → (g : ℕ) → A → Type 0
At [] g x = ⊥
At (y ∷ l) zero x = y ≡ x
At (y ∷ l) (suc g) x = At l g x

-- x is one of a list
abbrev pub Among : (x : ℕ) → List ℕ → Type 0
Among x [] = ⊥
Among x (y ∷ l) = (x ≡ y) ⊎ Among x l

-- the first n vectors of a batch
unfoldable pub vectors_in : (n : ℕ) (batch : Octets) → List Vector
vectors_in zero batch = []
vectors_in (suc n) batch = vectors_in n batch ++ (vector_at batch n ∷ [])

-- ---- the SQN that RAND and AUTN, or a vector, carry under the functions of a subscriber

abbrev pub sqn_with : Functions → (rand autn : Octets) → ℕ
sqn_with F rand autn = decode (sqn_in F rand autn)

abbrev pub vector_sqn : Functions → Vector → ℕ
vector_sqn F v = sqn_with F v.rand v.autn

-- ---- what a call leaves

-- an SQN is taken with an acceptance
abbrev pub taken_with : Verdict → (sqn : ℕ) → List ℕ → List ℕ
taken_with accepted sqn taken = sqn ∷ taken
taken_with mac_failure sqn taken = taken
taken_with sync_failure sqn taken = taken
taken_with (refused number) sqn taken = taken

abbrev pub after_centre : Stand → AucAnswer → Stand
after_centre s a = record {
  usim = s.usim;
  auc = a.auc;
  given = s.given ++ vectors_in a.n a.batch;
  taken = s.taken;
}

abbrev pub after_card : Stand → (sqn : ℕ) → UsimAnswer → Stand
after_card s sqn a = record { usim = a.usim; auc = s.auc; given = s.given; taken = taken_with a.verdict sqn s.taken }

module _ (scheme : Scheme) (family : Family) where
  -- the SQN that a challenge carries to the card
  abbrev pub sqn_asked : Stand → (rand autn : Octets) → ℕ
  sqn_asked s rand autn = sqn_with (family.under s.usim.keys) rand autn

  unfoldable pub after : Stand → Event → Stand
  after s (ordering count rands buffer) = after_centre s (order scheme family s.auc count rands buffer)
  after s (resyncing count rands buffer rand auts) = after_centre s (resync scheme family s.auc count rands buffer rand auts)
  after s (challenging rand autn) = after_card s (sqn_asked s rand autn) (challenge scheme family s.usim rand autn)

  -- after a whole run
  unfoldable pub run : Stand → List Event → Stand
  run s [] = s
  run s (e ∷ rest) = run (after s e) rest
