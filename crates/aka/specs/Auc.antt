-- The authentication centre, AuC (document 01: centre): its record, and its whole answers to an order and to a resynchronisation.
-- TS 33.102 §6.3.2 and §6.3.5; document 01, 'What the centre does' and 'Refusal numbers'; document 02, #104. Assumes nothing.
use Rattle.std.specs.Prelude.{ℕ, zero, suc, ◌+◌, ◌*◌, ◌%◌, Bool, ◌&&◌, not, cond, ◌≡◌, eqb, ltb, leb, length}
use Rattle.octets.specs.Octets.{Octets, xor, equal, encode, decode}
use Rattle.aka.specs.Layout.{Vector, write_autn, write_vector, read_auts}
use Rattle.aka.specs.Layout.{rand_size, sqn_size, amf_size, auts_size, vector_size, most_vectors, rand_at, joined}
use Rattle.aka.specs.Functions.{Keys, Shaped, Functions, Family, dummy_amf}
use Rattle.aka.specs.Sequence.{D, Numbering, Scheme, indices, limit, sqn_of, seq_of}

-- the centre's record
pub record Auc : Type 0 where
  pub edition : ℕ
  pub keys : Keys
  pub amf : Octets
  pub seqhe : ℕ  -- SEQ_HE
  pub next : ℕ  -- the next index

-- K, OPc and AMF have their length (the code's types see to it)
pub record AucShaped (auc : Auc) : Type 0 where
  pub keys : Shaped auc.keys
  pub amf : length auc.amf ≡ amf_size

abbrev pub new_auc : (edition : ℕ) → Keys → (amf : Octets) → Auc
new_auc edition keys amf = record { edition = edition; keys = keys; amf = amf; seqhe = 0; next = 0 }

-- ---- one vector, of SQN in octets, AMF and RAND

-- AUTN: SQN xor AK, AMF, MAC = f1 of SQN, RAND, AMF
unfoldable pub make_autn : Functions → (sqn amf rand : Octets) → Octets
make_autn F sqn amf rand = write_autn (record { concealed = xor sqn (F.f5 rand); amf = amf; mac = F.f1 sqn rand amf })

unfoldable pub make_vector : Functions → (sqn amf rand : Octets) → Vector
make_vector F sqn amf rand = record {
  rand = rand;
  xres = F.f2 rand;
  ck = F.f3 rand;
  ik = F.f4 rand;
  autn = make_autn F sqn amf rand;
}

-- ---- how many vectors: the count that results

-- a count of 0 means the default
abbrev pub count_of : (default count : ℕ) → ℕ
count_of default count = cond (eqb count 0) default count

-- the default, 5
abbrev pub default_count : ℕ
default_count = most_vectors

-- of an order, and of a resynchronisation
abbrev pub order_count : (count : ℕ) → ℕ
order_count count = count_of default_count count

abbrev pub resync_count : (count : ℕ) → ℕ
resync_count count = count_of default_count count

-- ---- a batch: n vectors whose SEQ follow the number `from`, places from 0

-- SEQ goes up by 1 for each vector
abbrev pub seq_at : (from k : ℕ) → ℕ
seq_at from k = from + 1 + k

-- all vectors of a batch carry the next index, or it goes up by 1 for each vector, after the last index to 0
abbrev pub ind_at : Numbering → Auc → (k : ℕ) → ℕ
ind_at m auc k = (auc.next + cond m.per_vector k 0) % indices m.width

-- the record after it: SEQ_HE becomes the last SEQ; the next index has gone up by 1 for the batch, or for each of its vectors
abbrev pub after_batch : Numbering → Auc → (from n : ℕ) → Auc
after_batch m auc from n = record {
  edition = auc.edition;
  keys = auc.keys;
  amf = auc.amf;
  seqhe = from + n;
  next = (auc.next + cond m.per_vector n 1) % indices m.width;
}

-- ---- the earliest pair of equal RANDs (document 01: of equal challenges)

pub data Pair : Type 0 where
  unequal : Pair
  equal_at : (first second : ℕ) → Pair

abbrev pub or_else : Pair → Pair → Pair
or_else unequal other = other
or_else (equal_at i j) other = equal_at i j

-- among the second places j, j + 1, .. (`left` of them) the smallest that makes a pair with i
unfoldable pub pair_with : (rands : Octets) (i j left : ℕ) → Pair
pair_with rands i j zero = unequal
pair_with rands i j (suc left) = cond (equal (rand_at rands i) (rand_at rands j)) (equal_at i j) (pair_with rands i (j + 1) left)

-- among the first places i, i + 1, .. (`left` of them, the last ones) the smallest that has a pair
unfoldable pub pair_from : (rands : Octets) (i left : ℕ) → Pair
pair_from rands i zero = unequal
pair_from rands i (suc left) = or_else (pair_with rands i (i + 1) left) (pair_from rands (i + 1) left)

-- among n RANDs
abbrev pub equal_pair : (rands : Octets) (n : ℕ) → Pair
equal_pair rands n = pair_from rands 0 n

-- ---- what AUTS says

-- SQN_MS = (SQN_MS xor AK*) xor AK*, in octets
abbrev pub sqn_ms_in : Functions → (rand auts : Octets) → Octets
sqn_ms_in F rand auts = xor (read_auts auts).concealed (F.f5* rand)

abbrev pub seq_ms_in : (w : ℕ) → Functions → (rand auts : Octets) → ℕ
seq_ms_in w F rand auts = seq_of w (decode (sqn_ms_in F rand auts))

-- XMAC-S = f1* of SQN_MS, RAND and an AMF of two zero octets is AUTS's MAC-S
unfoldable pub mac_s_right : Functions → (rand auts : Octets) → Bool
mac_s_right F rand auts = equal (read_auts auts).mac (F.f1* (sqn_ms_in F rand auts) rand dummy_amf)

-- SEQ_HE is at least SEQ_MS, and SEQ_HE + n is at most SEQ_MS + D
unfoldable pub in_range : (seqhe seqms n : ℕ) → Bool
in_range seqhe seqms n = leb seqms seqhe && leb (seqhe + n) (seqms + D)

-- in range SEQ_HE is kept; otherwise it first becomes SEQ_MS
abbrev pub kept_or_reset : (seqhe seqms n : ℕ) → ℕ
kept_or_reset seqhe seqms n = cond (in_range seqhe seqms n) seqhe seqms

-- ---- the answer

pub data Outcome : Type 0 where
  -- a batch: of an order; of a resynchronisation that kept SEQ_HE, or reset it
  given kept reset : Outcome
  refused : (number : ℕ) → Outcome
  -- refusal 4, with the earliest pair
  repeated : (first second : ℕ) → Outcome

-- document 01's refusal number, 0 for none
abbrev pub refusal_of : Outcome → ℕ
refusal_of given = 0
refusal_of kept = 0
refusal_of reset = 0
refusal_of (refused number) = number
refusal_of (repeated i j) = 4

-- and its pair, zero save in 4
abbrev pub first_of : Outcome → ℕ
first_of given = 0
first_of kept = 0
first_of reset = 0
first_of (refused number) = 0
first_of (repeated i j) = i

abbrev pub second_of : Outcome → ℕ
second_of given = 0
second_of kept = 0
second_of reset = 0
second_of (refused number) = 0
second_of (repeated i j) = j

pub record AucAnswer : Type 0 where
  pub outcome : Outcome
  pub n : ℕ  -- the number of vectors given, 0 with a refusal
  pub auc : Auc  -- the next record
  pub batch : Octets  -- what the buffer lent for the batch holds at the end

-- ---- refusals: `rest` is the outcome where they do not apply

-- refusal 4 applies where there is a pair
abbrev pub unless_repeated : Pair → (rest : Outcome) → Outcome
unless_repeated unequal other = other
unless_repeated (equal_at i j) other = repeated i j

-- 16n octets of RANDs and 72n octets to fill, by their lengths
unfoldable pub lent_for : (n rands buffer : ℕ) → Bool
lent_for n rands buffer = eqb rands (rand_size * n) && eqb buffer (vector_size * n)

-- and of a synchronisation failure RAND and AUTS, by theirs
unfoldable pub lent_auts : (rand auts : ℕ) → Bool
lent_auts rand auts = eqb rand rand_size && eqb auts auts_size

module _ (scheme : Scheme) (family : Family) (auc : Auc) where
  -- the centre counts, and splits SQN_MS, by the record's own edition
  abbrev m : Numbering
  m = scheme.numbering auc.edition

  abbrev w : ℕ
  w = m.width

  -- the functions of this subscriber
  abbrev F : Functions
  F = family.under auc.keys

  -- a valid record: refusal 1 does not apply to it
  unfoldable pub valid_auc : Bool
  valid_auc = family.admits auc.edition auc.keys && leb auc.seqhe (limit w) && ltb auc.next (indices w)

  -- refusals 1 to 4, which order and resynchronisation share; n is the count that results, `lent`: each lent part has the length named
  unfoldable pub unless_refused : (count n : ℕ) (lent : Bool) (rands : Octets) (rest : Outcome) → Outcome
  unless_refused count n lent rands rest =
      cond (not valid_auc) (refused 1)
      (cond (ltb most_vectors count) (refused 2)
      (cond (not lent) (refused 3)
      (unless_repeated (equal_pair rands n)
      rest)))

  -- refusal 6: the last SEQ would pass the limit
  unfoldable pub unless_past : (from n : ℕ) (rest : Outcome) → Outcome
  unless_past from n rest = cond (ltb (limit w) (from + n)) (refused 6) rest

  -- ---- what goes with an outcome

  -- the vector at place k
  abbrev pub vector_from : (from : ℕ) (rands : Octets) (k : ℕ) → Vector
  vector_from from rands k = make_vector F (encode sqn_size (sqn_of w (seq_at from k) (ind_at m auc k))) auc.amf (rand_at rands k)

  unfoldable pub batch_from : (from : ℕ) (rands : Octets) (n : ℕ) → Octets
  batch_from from rands n = joined (λ k. write_vector (vector_from from rands k)) n

  -- a batch, and the record after it
  abbrev pub given_with : (from : ℕ) (rands : Octets) (n : ℕ) → Outcome → AucAnswer
  given_with from rands n outcome = record { outcome = outcome; n = n; auc = after_batch m auc from n; batch = batch_from from rands n }

  -- a refusal: record and buffer as they were
  abbrev pub refused_with : (buffer : Octets) → Outcome → AucAnswer
  refused_with buffer outcome = record { outcome = outcome; n = 0; auc = auc; batch = buffer }

  unfoldable pub answer_with : (from : ℕ) (rands : Octets) (n : ℕ) (buffer : Octets) → Outcome → AucAnswer
  answer_with from rands n buffer outcome =
      cond (eqb (refusal_of outcome) 0) (given_with from rands n outcome)
      (refused_with buffer outcome)

  -- ---- RAND and AUTS of a synchronisation failure, where refusals 1 to 4 do not apply

  module _ (rand auts : Octets) (n : ℕ) where
    -- SEQ_MS
    abbrev ms : ℕ
    ms = seq_ms_in w F rand auts

    -- SEQ_HE, kept or reset: the batch follows it
    abbrev pub resync_from : ℕ
    resync_from = kept_or_reset auc.seqhe ms n

    unfoldable pub auts_outcome : Outcome
    auts_outcome =
        cond (not (in_range auc.seqhe ms n) && not (mac_s_right F rand auts)) (refused 5)
        (unless_past resync_from n
        (cond (in_range auc.seqhe ms n) kept reset))

  -- ---- the whole answers, to a count, that many RANDs, and a buffer for the batch

  module _ (count : ℕ) (rands buffer : Octets) where
    unfoldable pub order_outcome : Outcome
    order_outcome =
        let n = order_count count in
        unless_refused count n (lent_for n (length rands) (length buffer)) rands
        (unless_past auc.seqhe n
        given)

    -- the AuC's whole answer to an order
    unfoldable pub order : AucAnswer
    order = answer_with auc.seqhe rands (order_count count) buffer order_outcome

    module _ (rand auts : Octets) where
      unfoldable pub resync_outcome : Outcome
      resync_outcome =
          let n = resync_count count in
          unless_refused count n (lent_for n (length rands) (length buffer) && lent_auts (length rand) (length auts)) rands
          (auts_outcome rand auts n)

      -- the AuC's whole answer to a resynchronisation, with RAND and AUTS of a synchronisation failure
      unfoldable pub resync : AucAnswer
      resync = answer_with (resync_from rand auts (resync_count count)) rands (resync_count count) buffer resync_outcome
