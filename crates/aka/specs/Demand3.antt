-- Demand 3: after a synchronisation failure and the resynchronisation that it leads to, the USIM accepts the new batch.
-- Document 01, 'Demand 3 in exact words': its sentences stand beside the definitions; document 02, #104. Assumes nothing.
use Rattle.std.specs.Prelude.{ℕ, zero, suc, ◌+◌, ◌-◌, ◌*◌, ◌≤◌, Bool, true, ◌&&◌, cond, List, [], ◌∷◌, ◌⊎◌, ◌≡◌, length}
use Rattle.std.proofs.Math.Option.{Option, none, some}
use Rattle.octets.specs.Octets.{Octets, equal}
use Rattle.aka.specs.Layout.{Vector, rand_size, vector_size, most_vectors, vector_at}
use Rattle.aka.specs.Functions.{Functions, Family, Lawful}
use Rattle.aka.specs.Sequence.{Scheme, Fitting, width_of, limit}
use Rattle.aka.specs.Usim.{Usim, UsimShaped, UsimAnswer, accepted, sync_failure, challenge, valid_usim, lengths_right, seq_ms, seq_in}
use Rattle.aka.specs.Auc.{Auc, AucShaped, AucAnswer, unequal, kept, reset, valid_auc, resync, resync_count, equal_pair}

-- a USIM and a challenge to it; an AuC, and what is lent to its resynchronisation
pub record Setting : Type 0 where
  pub usim : Usim
  pub rand : Octets
  pub autn : Octets
  pub auc : Auc
  pub count : ℕ
  pub rands : Octets
  pub buffer : Octets

-- a call of the USIM, with a RAND and AUTN of any octets
pub record Call : Type 0 where
  pub rand : Octets
  pub autn : Octets

-- a call that has been answered
pub record AnsweredCall : Type 0 where
  -- the place of the vector with which it is counted as of the batch; none for every other call
  pub place : Option ℕ
  -- the last place counted, up to this call and with it
  pub last : Option ℕ
  pub answer : UsimAnswer

-- P is true of each element of a list
abbrev pub Each : {A : Type 0} → (A → Type 0) → List A → Type 0
Each P [] = Unit {0}
Each P (x ∷ rest) = P x × Each P rest

-- ---- which calls are of the batch

-- refusal 3 does not apply to the call, and its RAND and AUTN are those of the vector at place k
unfoldable pub carries : (batch : Octets) → Call → (k : ℕ) → Bool
carries batch call k =
    lengths_right call.rand call.autn
    && equal call.rand (vector_at batch k).rand
    && equal call.autn (vector_at batch k).autn

-- the first among the places k, k + 1, .. (`left` of them) whose vector the call carries
unfoldable pub place_from : (batch : Octets) → Call → (k left : ℕ) → Option ℕ
place_from batch call k zero = none
place_from batch call k (suc left) = cond (carries batch call k) (some k) (place_from batch call (suc k) left)

-- where the later places begin, after the last one counted
abbrev pub later : Option ℕ → ℕ
later none = 0
later (some k) = suc k

-- 'a vector at a later place than any so counted before it'. Take a batch of three, and calls with its vectors at places 1, 0 and 2, in
-- this order. Nothing was counted before the first, so it is counted at place 1. The second carries the vector at place 0, which is not
-- later than 1: it is not of the batch, and so one that the card does not accept. The third is counted at place 2.
abbrev pub place_of : (batch : Octets) (n : ℕ) (last : Option ℕ) → Call → Option ℕ
place_of batch n last call = place_from batch call (later last) (n - later last)

abbrev pub latest : (place last : Option ℕ) → Option ℕ
latest none last = last
latest (some k) last = some k

-- the SEQ of a vector, read from its own octets
abbrev pub vector_seq : (w : ℕ) → Functions → Vector → ℕ
vector_seq w F v = seq_in w F v.rand v.autn

-- ---- the list of calls

module _ (scheme : Scheme) (family : Family) (batch : Octets) (n : ℕ) where
  abbrev pub answer_to : Usim → (last : Option ℕ) → Call → AnsweredCall
  answer_to usim last call = record {
    place = place_of batch n last call;
    last = latest (place_of batch n last call) last;
    answer = challenge scheme family usim call.rand call.autn;
  }

  -- each call gets the record that the one before returned
  unfoldable pub answers_to : Usim → (last : Option ℕ) → List Call → List AnsweredCall
  answers_to usim last [] = []
  answers_to usim last (call ∷ rest) =
      answer_to usim last call ∷ answers_to (answer_to usim last call).answer.usim (answer_to usim last call).last rest

-- 'Every other call is one that the card does not accept'
abbrev pub OtherNotAccepted : AnsweredCall → Type 0
OtherNotAccepted c = c.place ≡ none → c.answer.verdict ≡ accepted → ⊥

-- what holds of each call, however the batch was numbered; `F` are the functions of the subscriber
pub record FromBatch (w : ℕ) (F : Functions) (batch : Octets) (c : AnsweredCall) : Type 0 where
  -- a call of the batch is accepted, with RES, CK and IK equal to its vector's XRES, CK and IK
  pub verdict : (k : ℕ) → c.place ≡ some k → c.answer.verdict ≡ accepted
  pub res : (k : ℕ) → c.place ≡ some k → c.answer.res ≡ (vector_at batch k).xres
  pub ck : (k : ℕ) → c.place ≡ some k → c.answer.ck ≡ (vector_at batch k).ck
  pub ik : (k : ℕ) → c.place ≡ some k → c.answer.ik ≡ (vector_at batch k).ik
  -- from the call with the vector at place k until the next call of the batch, SEQ_MS is that vector's SEQ
  pub seq : (k : ℕ) → c.last ≡ some k → seq_ms c.answer.usim ≡ vector_seq w F (vector_at batch k)

-- and besides, of a batch that is counted up, 'the SEQ_HE that the resynchronisation returned is SEQ_MS + n - 1 - k', said as a sum
pub record Promised (w : ℕ) (F : Functions) (batch : Octets) (n seqhe : ℕ) (c : AnsweredCall) : Type 0 where
  pub accepts : FromBatch w F batch c
  pub ahead : (k : ℕ) → c.last ≡ some k → seqhe + k + 1 ≡ seq_ms c.answer.usim + n

-- ---- the statement

-- the parts of both records have their lengths; the types of the code see to that, and the crate `demand3` takes it from them
pub record Shapes (scheme : Scheme) (s : Setting) : Type 0 where
  pub usim : UsimShaped scheme s.usim
  pub auc : AucShaped s.auc

module _ (scheme : Scheme) (family : Family) (s : Setting) where
  -- the width of the card's index
  abbrev pub w : ℕ
  w = width_of scheme s.usim.edition

  -- the count that results
  abbrev pub n : ℕ
  n = resync_count s.count

  -- the USIM's answer to the challenge
  abbrev pub failure : UsimAnswer
  failure = challenge scheme family s.usim s.rand s.autn

  -- the AuC's answer to its AUTS
  abbrev pub resynced : AucAnswer
  resynced = resync scheme family s.auc s.count s.rands s.buffer s.rand failure.auts

  pub record Premise : Type 0 where
    -- valid records
    pub usim_valid : valid_usim scheme family s.usim ≡ true
    pub auc_valid : valid_auc scheme family s.auc ≡ true
    -- the same edition, set, K and OPc
    pub same_edition : s.auc.edition ≡ s.usim.edition
    pub same_keys : s.auc.keys ≡ s.usim.keys
    -- count, lent parts and RANDs are as named: refusals 2, 3 and 4 do not apply
    pub count : s.count ≤ most_vectors
    pub rands : length s.rands ≡ rand_size * n
    pub buffer : length s.buffer ≡ vector_size * n
    pub unequal_rands : equal_pair s.rands n ≡ unequal
    -- room: SEQ_MS + n and SEQ_HE + n are within SEQ's limit
    pub room_ms : seq_ms s.usim + n ≤ limit w
    pub room_he : s.auc.seqhe + n ≤ limit w
    -- the USIM answers with synchronisation failure
    pub failed : failure.verdict ≡ sync_failure

  -- the list starts from the record that the synchronisation failure left
  abbrev pub answered : List Call → List AnsweredCall
  answered calls = answers_to scheme family resynced.batch n failure.usim none calls

  pub record Conclusion : Type 0 where
    -- the AuC sends a batch
    pub sent : (resynced.outcome ≡ kept) ⊎ (resynced.outcome ≡ reset)
    -- 'For every such list'
    pub all : (calls : List Call) → Each OtherNotAccepted (answered calls)
        → Each (Promised w (family.under s.usim.keys) resynced.batch n resynced.auc.seqhe) (answered calls)

-- for every scheme of editions, whatever the width of an index, every lawful family, and every setting that meets the premise
abbrev pub Demand3 : Type 0
Demand3 = (scheme : Scheme) → Fitting scheme → (family : Family) → Lawful family
    → (s : Setting) → Shapes scheme s → Premise scheme family s → Conclusion scheme family s
