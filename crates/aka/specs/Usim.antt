-- The USIM (document 01: card): its record, and its whole answer to a challenge of any octets.
-- TS 33.102 §6.3.3, in the order of its figure 9, and Annex C.2, where document 01 has a place for each index in place of a list; document
-- 01, 'What the card does'; document 02, #104. `w` is the width of the index IND in bits. Assumes nothing.
use Rattle.std.specs.Prelude.{ℕ, suc, ◌-◌, max, Bool, true, ◌&&◌, ◌||◌, not, cond, List, [], ◌∷◌, ◌≡◌, eqb, ltb, leb, length}
use Rattle.std.specs.Prelude.{get_or, replicate, set, drop}
use Rattle.octets.specs.Octets.{Octets, zeros, xor, equal, encode, decode}
use Rattle.aka.specs.Layout.{rand_size, autn_size, res_size, ck_size, ik_size, sqn_size, auts_size, all_zero, read_autn, write_auts}
use Rattle.aka.specs.Functions.{Keys, Shaped, Functions, Family, dummy_amf}
use Rattle.aka.specs.Sequence.{D, Scheme, width_of, indices, limit, sqn_of, seq_of, ind_of}

-- the card's record
pub record Usim : Type 0 where
  pub edition : ℕ
  pub keys : Keys
  pub places : List ℕ  -- document 01: the places of the card; a SEQ for each index of its edition, and zeros behind them

-- K and OPc have their length, and there are as many places as in every card (the code's types see to it)
pub record UsimShaped (scheme : Scheme) (usim : Usim) : Type 0 where
  pub keys : Shaped usim.keys
  pub places : length usim.places ≡ scheme.places

-- all places 0
abbrev pub new_usim : Scheme → (edition : ℕ) → Keys → Usim
new_usim scheme edition keys = record { edition = edition; keys = keys; places = replicate scheme.places 0 }

-- ---- SEQ_MS and SQN_MS (Annex C.2; the counter that AUTS tells)

-- the highest place
unfoldable pub highest : (places : List ℕ) → ℕ
highest [] = 0
highest (p ∷ rest) = max p (highest rest)

-- the lowest index that holds `seq`
unfoldable pub lowest_index : (seq : ℕ) (places : List ℕ) → ℕ
lowest_index seq [] = 0
lowest_index seq (p ∷ rest) = cond (eqb p seq) 0 (suc (lowest_index seq rest))

-- SEQ_MS is the highest place
abbrev pub seq_ms : Usim → ℕ
seq_ms usim = highest usim.places

-- SQN_MS is SEQ_MS with the lowest index that holds it
abbrev pub sqn_ms : (w : ℕ) → Usim → ℕ
sqn_ms w usim = sqn_of w (seq_ms usim) (lowest_index (seq_ms usim) usim.places)

-- ---- refusals 1 and 3

unfoldable pub all_within : (most : ℕ) (places : List ℕ) → Bool
all_within most [] = true
all_within most (p ∷ rest) = leb p most && all_within most rest

-- a valid record: refusal 1 does not apply to it. Each place is within the limit, and those behind the edition's indices are 0
unfoldable pub valid_usim : Scheme → Family → Usim → Bool
valid_usim scheme family usim =
    let w = width_of scheme usim.edition in
    family.admits usim.edition usim.keys
    && all_within (limit w) usim.places
    && all_zero (drop (indices w) usim.places)

-- RAND and AUTN have the lengths named: refusal 3 does not apply
unfoldable pub lengths_right : (rand autn : Octets) → Bool
lengths_right rand autn = eqb (length rand) rand_size && eqb (length autn) autn_size

-- ---- what AUTN says (§6.3.3, figure 9)

-- SQN = (SQN xor AK) xor AK, in octets; AK = f5 of RAND
abbrev pub sqn_in : Functions → (rand autn : Octets) → Octets
sqn_in F rand autn = xor (read_autn autn).concealed (F.f5 rand)

abbrev pub seq_in : (w : ℕ) → Functions → (rand autn : Octets) → ℕ
seq_in w F rand autn = seq_of w (decode (sqn_in F rand autn))

abbrev pub ind_in : (w : ℕ) → Functions → (rand autn : Octets) → ℕ
ind_in w F rand autn = ind_of w (decode (sqn_in F rand autn))

-- 'Verify MAC = XMAC': XMAC = f1 of SQN, RAND, AMF
unfoldable pub mac_right : Functions → (rand autn : Octets) → Bool
mac_right F rand autn = equal (read_autn autn).mac (F.f1 (sqn_in F rand autn) rand (read_autn autn).amf)

-- 'Verify that SQN is in the correct range': SEQ is above the place at IND, and SEQ minus SEQ_MS is at most D (a SEQ below SEQ_MS passes
-- that half). D is the annex's largest increase (C.2.1).
unfoldable pub fresh : (places : List ℕ) (seq ind : ℕ) → Bool
fresh places seq ind = ltb (get_or places ind 0) seq && (ltb seq (highest places) || leb (seq - highest places) D)

-- ---- the answer

pub data Verdict : Type 0 where
  accepted mac_failure sync_failure : Verdict
  refused : (number : ℕ) → Verdict

-- document 01's refusal number, 0 for none
abbrev pub refusal_of : Verdict → ℕ
refusal_of accepted = 0
refusal_of mac_failure = 0
refusal_of sync_failure = 0
refusal_of (refused number) = number

pub record UsimAnswer : Type 0 where
  pub verdict : Verdict
  pub usim : Usim  -- the next record
  pub res : Octets
  pub ck : Octets
  pub ik : Octets
  pub auts : Octets

-- AUTS: SQN_MS xor AK*, then MAC-S = f1* of SQN_MS, RAND, AMF; AK* = f5* of RAND
unfoldable pub make_auts : Functions → (sqn amf rand : Octets) → Octets
make_auts F sqn amf rand = write_auts (record { concealed = xor sqn (F.f5* rand); mac = F.f1* sqn rand amf })

-- the one place at IND becomes SEQ
abbrev pub stored : Usim → (seq ind : ℕ) → Usim
stored usim seq ind = record { edition = usim.edition; keys = usim.keys; places = set usim.places ind seq }

-- nothing is changed and no keys are given
abbrev pub unchanged : Verdict → Usim → (auts : Octets) → UsimAnswer
unchanged verdict usim auts = record {
  verdict = verdict;
  usim = usim;
  res = zeros res_size;
  ck = zeros ck_size;
  ik = zeros ik_size;
  auts = auts;
}

-- a challenge: RAND and AUTN of any octets and any lengths
module _ (scheme : Scheme) (family : Family) (usim : Usim) (rand autn : Octets) where
  -- the card splits SQN by its own edition
  abbrev w : ℕ
  w = width_of scheme usim.edition

  -- the functions of this subscriber
  abbrev F : Functions
  F = family.under usim.keys

  -- first MAC, then freshness
  unfoldable pub judgement : Verdict
  judgement =
      cond (not (mac_right F rand autn)) mac_failure
      (cond (not (fresh usim.places (seq_in w F rand autn) (ind_in w F rand autn))) sync_failure
      accepted)

  -- before them the lowest refusal that applies
  unfoldable pub verdict_on : Verdict
  verdict_on =
      cond (not (valid_usim scheme family usim)) (refused 1)
      (cond (not (lengths_right rand autn)) (refused 3)
      judgement)

  -- what goes with each verdict; octets not named for a case are zero
  unfoldable pub answer_with : Verdict → UsimAnswer
  answer_with accepted = record {
    verdict = accepted;
    usim = stored usim (seq_in w F rand autn) (ind_in w F rand autn);
    res = F.f2 rand;
    ck = F.f3 rand;
    ik = F.f4 rand;
    auts = zeros auts_size;
  }
  answer_with mac_failure = unchanged mac_failure usim (zeros auts_size)
  answer_with sync_failure = unchanged sync_failure usim (make_auts F (encode sqn_size (sqn_ms w usim)) dummy_amf rand)
  answer_with (refused number) = unchanged (refused number) usim (zeros auts_size)

  -- the USIM's whole answer
  unfoldable pub challenge : UsimAnswer
  challenge = answer_with verdict_on
