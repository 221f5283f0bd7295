-- What the USIM's answer promises, sentence by sentence of document 01, 'What the card does', beside TS 33.102 §6.3.3 and Annex C.2. These
-- laws rule out its 'Slips that look right', and the cards that it shuts out by name. Assumes nothing.
use Rattle.std.specs.Prelude.{ℕ, ◌+◌, ◌≤◌, ◌<◌, true, false, [], ◌∷◌, ◌++◌, ◌↔◌, ◌≡◌, length, get_or}
use Rattle.octets.specs.Octets.{Octets, Below, zeros, xor, encode}
use Rattle.aka.specs.Layout.{rand_size, autn_size, sqn_size, auts_size}
use Rattle.aka.specs.Functions.{Keys, Functions, Family, Shaped, Lawful}
use Rattle.aka.specs.Sequence.{D, Scheme, Fitting, width_of, indices, limit, seq_of, ind_of}
use Rattle.aka.specs.Usim.{Usim, UsimShaped, UsimAnswer, new_usim, challenge, unchanged, valid_usim, seq_in, ind_in, mac_right, seq_ms}
use Rattle.aka.specs.Usim.{sqn_ms, accepted, mac_failure, sync_failure, refused, refusal_of}

-- 'AUTS is SQN_MS xor AK* (6), MAC-S (8)': AK* is f5* of RAND, and MAC-S is 'f1* of SQN_MS, RAND and an AMF of two zero bytes'
abbrev pub auts_of : Functions → (sqn : ℕ) (rand : Octets) → Octets
auts_of F sqn rand = xor (encode sqn_size sqn) (F.f5* rand) ++ F.f1* (encode sqn_size sqn) rand (0 ∷ 0 ∷ [])

-- ---- one challenge, of any octets

module _ (scheme : Scheme) (family : Family) (usim : Usim) (rand autn : Octets) where
  abbrev w : ℕ
  w = width_of scheme usim.edition

  abbrev F : Functions
  F = family.under usim.keys

  abbrev answer : UsimAnswer
  answer = challenge scheme family usim rand autn

  abbrev seq : ℕ
  seq = seq_in w F rand autn

  abbrev ind : ℕ
  ind = ind_in w F rand autn

  -- RAND and AUTN have the lengths named: refusal 3 does not apply
  pub record LengthsNamed : Type 0 where
    pub rand_size_lem : length rand ≡ rand_size
    pub autn_size_lem : length autn ≡ autn_size

  -- no refusal applies
  pub record Unrefused : Type 0 where
    pub valid : valid_usim scheme family usim ≡ true
    pub lengths : LengthsNamed

  -- freshness in numbers: SEQ is above the place at IND, and at most SEQ_MS + D
  abbrev pub Fresh : Type 0
  Fresh = (get_or usim.places ind 0 < seq) × (seq ≤ seq_ms usim + D)

  -- all that an acceptance asks
  pub record Acceptable : Type 0 where
    pub unrefused : Unrefused
    pub mac : mac_right F rand autn ≡ true
    pub fresh : Fresh

  -- the next record has SEQ at that one place
  pub record OnePlace : Type 0 where
    pub edition : answer.usim.edition ≡ usim.edition
    pub keys : answer.usim.keys ≡ usim.keys
    pub size : length answer.usim.places ≡ length usim.places
    pub place : ind < length usim.places → get_or answer.usim.places ind 0 ≡ seq
    pub others : (i : ℕ) → (i ≡ ind → ⊥) → get_or answer.usim.places i 0 ≡ get_or usim.places i 0

  pub record UsimLaws : Type 0 where
    -- 'The lowest number that applies is given, and only when it applies.'
    pub refusal1 : valid_usim scheme family usim ≡ false → answer.verdict ≡ refused 1
    pub refusal3 : valid_usim scheme family usim ≡ true → (LengthsNamed → ⊥) → answer.verdict ≡ refused 3
    pub not_refused : Unrefused → (number : ℕ) → answer.verdict ≡ refused number → ⊥
    -- in document 01's numbers, 0 for none
    pub number1 : valid_usim scheme family usim ≡ false → refusal_of answer.verdict ≡ 1
    pub number3 : valid_usim scheme family usim ≡ true → (LengthsNamed → ⊥) → refusal_of answer.verdict ≡ 3
    pub number0 : Unrefused → refusal_of answer.verdict ≡ 0
    -- 'First MAC: if it differs, MAC failure.'
    pub mac_wrong : Unrefused → mac_right F rand autn ≡ false → answer.verdict ≡ mac_failure
    -- 'Then freshness. If not, synchronisation failure with AUTS.'
    pub not_fresh : Unrefused → mac_right F rand autn ≡ true → (Fresh → ⊥) → answer.verdict ≡ sync_failure
    pub auts : answer.verdict ≡ sync_failure → answer.auts ≡ auts_of F (sqn_ms w usim) rand
    -- 'Otherwise accepted', in two halves: what is fresh is accepted, and what is accepted was fresh, its MAC right and nothing refused
    pub fresh_accepted : Acceptable → answer.verdict ≡ accepted
    pub accepted_fresh : answer.verdict ≡ accepted → Acceptable
    -- 'that one place becomes SEQ, and RES, CK, IK are given'
    pub stored : answer.verdict ≡ accepted → OnePlace
    pub res : answer.verdict ≡ accepted → answer.res ≡ F.f2 rand
    pub ck : answer.verdict ≡ accepted → answer.ck ≡ F.f3 rand
    pub ik : answer.verdict ≡ accepted → answer.ik ≡ F.f4 rand
    -- 'Other verdicts change nothing and give no keys.'
    pub not_accepted : (answer.verdict ≡ accepted → ⊥) → answer ≡ unchanged answer.verdict usim answer.auts
    -- 'answer bytes not named for a case are zero, AUTS too'
    pub no_auts : (answer.verdict ≡ sync_failure → ⊥) → answer.auts ≡ zeros auts_size

-- ---- SQN_MS

-- 'SEQ_MS is the highest place; SQN_MS is SEQ_MS with the lowest index that holds it.'
pub record LowestIndex (w : ℕ) (usim : Usim) : Type 0 where
  pub highest : (i : ℕ) → get_or usim.places i 0 ≤ seq_ms usim
  pub seq : seq_of w (sqn_ms w usim) ≡ seq_ms usim
  pub holds : get_or usim.places (ind_of w (sqn_ms w usim)) 0 ≡ seq_ms usim
  pub lowest : (i : ℕ) → i < ind_of w (sqn_ms w usim) → get_or usim.places i 0 ≡ seq_ms usim → ⊥

-- ---- two USIMs

pub record SameAnswer (a b : UsimAnswer) : Type 0 where
  pub verdict : a.verdict ≡ b.verdict
  pub res : a.res ≡ b.res
  pub ck : a.ck ≡ b.ck
  pub ik : a.ik ≡ b.ik
  pub auts : a.auts ≡ b.auts

pub record UsimPromise (scheme : Scheme) (family : Family) : Type 0 where
  pub laws : (usim : Usim) (rand autn : Octets) → UsimLaws scheme family usim rand autn
  pub sqn_ms_lem : Fitting scheme → (usim : Usim) → UsimShaped scheme usim → valid_usim scheme family usim ≡ true
      → LowestIndex (width_of scheme usim.edition) usim
  -- 'Two valid cards alike in set, K and OPc but unlike in their places give one challenge of wrong MAC the same verdict and bytes.'
  pub alike : (usim usim' : Usim) (rand autn : Octets) → valid_usim scheme family usim ≡ true → valid_usim scheme family usim' ≡ true
      → usim.keys ≡ usim'.keys → mac_right (family.under usim.keys) rand autn ≡ false
      → SameAnswer (challenge scheme family usim rand autn) (challenge scheme family usim' rand autn)
  -- refusal 1: 'unknown set, SEQ past its range'; document 02, #104: 'places 32 to 63 of an edition 1 card are zero, else refusal 1'
  pub valid : (usim : Usim) → (valid_usim scheme family usim ≡ true) ↔ (
      (family.admits usim.edition usim.keys ≡ true)
      × ((i : ℕ) → get_or usim.places i 0 ≤ limit (width_of scheme usim.edition))
      × ((i : ℕ) → indices (width_of scheme usim.edition) ≤ i → get_or usim.places i 0 ≡ 0)
      )
  -- a new record has SEQ_MS 0 and is valid, and a valid record is followed by a valid record
  pub new_seq : (edition : ℕ) (keys : Keys) → seq_ms (new_usim scheme edition keys) ≡ 0
  pub new_valid : (edition : ℕ) (keys : Keys) → family.admits edition keys ≡ true
      → valid_usim scheme family (new_usim scheme edition keys) ≡ true
  pub stays_valid : Fitting scheme → Lawful family → (usim : Usim) (rand autn : Octets) → Shaped usim.keys
      → Below 256 usim.keys.k → Below 256 usim.keys.opc → Below 256 rand → Below 256 autn
      → valid_usim scheme family usim ≡ true → valid_usim scheme family (challenge scheme family usim rand autn).usim ≡ true
