-- What the AuC's answers promise, sentence by sentence of document 01, 'What the centre does'. These laws rule out its
-- 'Slips that look right', and the centres that it shuts out by name. Assumes nothing.
use Rattle.std.specs.Prelude.{ℕ, suc, ◌+◌, ◌*◌, ◌^◌, ◌≤◌, ◌<◌, Bool, true, false, [], ◌⊎◌, ◌↔◌, ◌≡◌, length}
use Rattle.std.proofs.Math.Option.{none, some}
use Rattle.octets.specs.Octets.{Octets, part}
use Rattle.aka.specs.Layout.{
  Vector,
  rand_size,
  amf_size,
  auts_size,
  vector_size,
  most_vectors,
  rand_at,
  read_autn,
  vector_at,
  vector_offset,
  vector_part,
}
use Rattle.aka.specs.Functions.{Keys, Functions, Family, Shaped, Lawful}
use Rattle.aka.specs.Sequence.{D, Numbering, Scheme, Fitting, width_of, sqn_bits, indices, limit, seq_of}
use Rattle.aka.specs.Usim.{seq_in, ind_in, mac_right}
use Rattle.aka.specs.UsimLaws.{auts_of}
use Rattle.aka.specs.Auc.{
  Auc,
  AucAnswer,
  new_auc,
  unequal,
  equal_at,
  given,
  kept,
  reset,
  refused,
  repeated,
  refusal_of,
  first_of,
  second_of,
  valid_auc,
  order_count,
  resync_count,
  equal_pair,
  in_range,
  mac_s_right,
  seq_ms_in,
  order,
  resync,
}

-- 'the earliest pair of equal challenges (smallest first place, then second, from 0)'
pub record Earliest (rands : Octets) (n i j : ℕ) : Type 0 where
  pub order : i < j
  pub inside : j < n
  pub equal : rand_at rands i ≡ rand_at rands j
  pub first : (i' j' : ℕ) → i' < j' → j' < n → rand_at rands i' ≡ rand_at rands j'
      → (i < i') ⊎ ((i ≡ i') × (j ≤ j'))

-- 'SEQ_HE is at least SEQ_MS and SEQ_HE + n is at most SEQ_MS + D', in numbers
abbrev pub Range : (seqhe seqms n : ℕ) → Type 0
Range seqhe seqms n = (seqms ≤ seqhe) × (seqhe + n ≤ seqms + D)

-- place k of a batch of n vectors, one to five, in `size` octets: refusal 3 does not apply
pub record PlaceOf (size k n : ℕ) : Type 0 where
  pub whole : size ≡ vector_size * n
  pub most : n ≤ most_vectors
  pub inside : k < n

-- of indices of `w` bits: j is i + 1, after the last index 0
pub record IndexAfter (w i j : ℕ) : Type 0 where
  pub next : suc i < indices w → j ≡ suc i
  pub last : suc i ≡ indices w → j ≡ 0

-- n is the count that results
module _ (scheme : Scheme) (family : Family) (auc : Auc) (count n : ℕ) (rands buffer : Octets) where
  abbrev m : Numbering
  m = scheme.numbering auc.edition

  abbrev w : ℕ
  w = m.width

  abbrev F : Functions
  F = family.under auc.keys

  -- refusals 1, 2 and 4 do not apply
  pub record Asking : Type 0 where
    pub valid : valid_auc scheme family auc ≡ true
    pub count_small : count ≤ most_vectors
    pub unequal_rands : equal_pair rands n ≡ unequal

  -- refusal 3 does not apply to RANDs and buffer
  pub record BatchSized : Type 0 where
    pub rands_size_lem : length rands ≡ rand_size * n
    pub buffer_size : length buffer ≡ vector_size * n

  -- refusals 1 to 4 do not apply; and the functions, keys and AMF are as they should be
  pub record Sound : Type 0 where
    pub asking : Asking
    pub sizes : BatchSized
    pub fits : Fitting scheme
    pub lawful : Lawful family
    pub keys : Shaped auc.keys
    pub amf : length auc.amf ≡ amf_size

  -- refusals 1 to 4: 'The lowest number that applies is given'; `Named`: each lent part has the length named
  pub record Refuses (Named : Type 0) (answer : AucAnswer) : Type 0 where
    pub refusal1 : valid_auc scheme family auc ≡ false → answer.outcome ≡ refused 1
    pub refusal2 : valid_auc scheme family auc ≡ true → most_vectors < count → answer.outcome ≡ refused 2
    pub refusal3 : valid_auc scheme family auc ≡ true → count ≤ most_vectors → (Named → ⊥) → answer.outcome ≡ refused 3
    pub refusal4 : (i j : ℕ) → valid_auc scheme family auc ≡ true → count ≤ most_vectors → Named → equal_pair rands n ≡ equal_at i j
        → answer.outcome ≡ repeated i j
    -- in document 01's numbers; 'the answer names the earliest pair'
    pub number1 : valid_auc scheme family auc ≡ false → refusal_of answer.outcome ≡ 1
    pub number2 : valid_auc scheme family auc ≡ true → most_vectors < count → refusal_of answer.outcome ≡ 2
    pub number3 : valid_auc scheme family auc ≡ true → count ≤ most_vectors → (Named → ⊥) → refusal_of answer.outcome ≡ 3
    pub pair4 : (i j : ℕ) → valid_auc scheme family auc ≡ true → count ≤ most_vectors → Named → equal_pair rands n ≡ equal_at i j
        → (refusal_of answer.outcome ≡ 4) × (first_of answer.outcome ≡ i) × (second_of answer.outcome ≡ j)
    -- 'is zero, save the pair in 4': of every answer, a batch too
    pub pair0 : (refusal_of answer.outcome ≡ 4 → ⊥) → (first_of answer.outcome ≡ 0) × (second_of answer.outcome ≡ 0)

  -- no refusal: the answer has a batch whose SEQ follow the number `from`
  module _ (from : ℕ) (answer : AucAnswer) where
    abbrev vec : ℕ → Vector
    vec k = vector_at answer.batch k

    pub record Generates : Type 0 where
      pub vectors : answer.n ≡ n
      pub size : length answer.batch ≡ vector_size * n
      -- RAND as lent, and XRES, CK, IK of it
      pub rand : (k : ℕ) → k < n → (vec k).rand ≡ rand_at rands k
      pub xres : (k : ℕ) → k < n → (vec k).xres ≡ F.f2 (rand_at rands k)
      pub ck : (k : ℕ) → k < n → (vec k).ck ≡ F.f3 (rand_at rands k)
      pub ik : (k : ℕ) → k < n → (vec k).ik ≡ F.f4 (rand_at rands k)
      -- AUTN has the record's AMF and a right MAC
      pub amf : (k : ℕ) → k < n → (read_autn (vec k).autn).amf ≡ auc.amf
      pub mac : (k : ℕ) → k < n → mac_right F (vec k).rand (vec k).autn ≡ true
      -- 'SEQ goes up by 1 for each vector.'
      pub seq : (k : ℕ) → k < n → seq_in w F (vec k).rand (vec k).autn ≡ from + 1 + k
      -- 'All vectors of a batch carry the next index, which then goes up by 1, after 31 to 0'
      pub ind : m.per_vector ≡ false → (k : ℕ) → k < n → ind_in w F (vec k).rand (vec k).autn ≡ auc.next
      pub next : m.per_vector ≡ false → IndexAfter w auc.next answer.auc.next
      -- document 02, #104: 'the index goes up by 1 for every vector, after 63 to 0': from the next index on, and on into the record
      pub ind_first : m.per_vector ≡ true → 0 < n → ind_in w F (vec 0).rand (vec 0).autn ≡ auc.next
      pub ind_after : m.per_vector ≡ true → (k : ℕ) → suc k < n
          → IndexAfter w (ind_in w F (vec k).rand (vec k).autn) (ind_in w F (vec (suc k)).rand (vec (suc k)).autn)
      pub next_after : m.per_vector ≡ true → (k : ℕ) → suc k ≡ n
          → IndexAfter w (ind_in w F (vec k).rand (vec k).autn) answer.auc.next
      -- 'SEQ_HE becomes the last SEQ.'
      pub last : (k : ℕ) → suc k ≡ n → answer.auc.seqhe ≡ seq_in w F (vec k).rand (vec k).autn
      -- the rest of the record stays
      pub same_edition : answer.auc.edition ≡ auc.edition
      pub same_keys : answer.auc.keys ≡ auc.keys
      pub same_amf : answer.auc.amf ≡ auc.amf

  -- a refusal: 'Record and lent buffers stay as they were; every other field of the answer .. is zero' (the pair: `Refuses`)
  pub record Stays (answer : AucAnswer) : Type 0 where
    pub none : answer.n ≡ 0
    pub same_auc : answer.auc ≡ auc
    pub same_buffer : answer.batch ≡ buffer

-- ---- an order: refusals 1, 2, 3, 4, 6

module _ (scheme : Scheme) (family : Family) (auc : Auc) (count : ℕ) (rands buffer : Octets) where
  -- 'past 4,398,046,511,103 from edition 2': by the record's own edition
  abbrev order_limit : ℕ
  order_limit = limit (width_of scheme auc.edition)

  abbrev order_n : ℕ
  order_n = order_count count

  abbrev ordered : AucAnswer
  ordered = order scheme family auc count rands buffer

  abbrev OrderAsking : Type 0
  OrderAsking = Asking scheme family auc count order_n rands buffer

  abbrev OrderSized : Type 0
  OrderSized = BatchSized scheme family auc count order_n rands buffer

  pub record OrderLaws : Type 0 where
    pub refuses : Refuses scheme family auc count order_n rands buffer OrderSized ordered
    -- 6: 'the last SEQ would pass the limit'
    pub refusal6 : OrderAsking → OrderSized → order_limit < auc.seqhe + order_n → ordered.outcome ≡ refused 6
    pub number6 : OrderAsking → OrderSized → order_limit < auc.seqhe + order_n → refusal_of ordered.outcome ≡ 6
    -- otherwise a batch is given
    pub not_refused : OrderAsking → OrderSized → auc.seqhe + order_n ≤ order_limit → ordered.outcome ≡ given
    pub generates : Sound scheme family auc count order_n rands buffer → ordered.outcome ≡ given
        → Generates scheme family auc count order_n rands buffer auc.seqhe ordered
    pub stays : (refusal_of ordered.outcome ≡ 0 → ⊥) → Stays scheme family auc count order_n rands buffer ordered
    -- a valid record is followed by a valid record
    pub stays_valid : valid_auc scheme family auc ≡ true → valid_auc scheme family ordered.auc ≡ true

-- ---- a resynchronisation: refusals 1 to 6

module _ (scheme : Scheme) (family : Family) (auc : Auc) (count : ℕ) (rands buffer rand auts : Octets) where
  abbrev resync_width : ℕ
  resync_width = width_of scheme auc.edition

  abbrev resync_limit : ℕ
  resync_limit = limit resync_width

  abbrev resync_n : ℕ
  resync_n = resync_count count

  abbrev resynced : AucAnswer
  resynced = resync scheme family auc count rands buffer rand auts

  abbrev ResyncAsking : Type 0
  ResyncAsking = Asking scheme family auc count resync_n rands buffer

  -- refusal 3 does not apply to RANDs and buffer, nor to RAND and AUTS
  pub record ResyncSized : Type 0 where
    pub sizes : BatchSized scheme family auc count resync_n rands buffer
    pub rand_size_lem : length rand ≡ rand_size
    pub auts_size_lem : length auts ≡ auts_size

  -- SEQ_MS as AUTS tells it
  abbrev ms : ℕ
  ms = seq_ms_in resync_width (family.under auc.keys) rand auts

  abbrev range : Bool
  range = in_range auc.seqhe ms resync_n

  -- whether MAC-S is right
  abbrev right : Bool
  right = mac_s_right (family.under auc.keys) rand auts

  abbrev ResyncSound : Type 0
  ResyncSound = Sound scheme family auc count resync_n rands buffer

  abbrev ResyncGenerates : (from : ℕ) → Type 0
  ResyncGenerates from = Generates scheme family auc count resync_n rands buffer from resynced

  -- 6: 'the last SEQ would pass the limit': from SEQ_HE in range, from SEQ_MS on a reset
  abbrev pub Past : Type 0
  Past = ((range ≡ true) × (resync_limit < auc.seqhe + resync_n)) ⊎ ((range ≡ false) × (right ≡ true) × (resync_limit < ms + resync_n))

  pub record ResyncLaws : Type 0 where
    pub refuses : Refuses scheme family auc count resync_n rands buffer ResyncSized resynced
    -- 'recover SQN_MS', from the AUTS of a card with the same keys; its MAC-S is right
    pub recovered : ResyncSound → length rand ≡ rand_size → (sqn : ℕ) → sqn < 2 ^ sqn_bits
        → auts ≡ auts_of (family.under auc.keys) sqn rand → (ms ≡ seq_of resync_width sqn) × (right ≡ true)
    -- 'In range: batch as usual, MAC-S not looked at.'
    pub in_range_lem : ResyncAsking → ResyncSized → range ≡ true → auc.seqhe + resync_n ≤ resync_limit → resynced.outcome ≡ kept
    pub kept_generates : ResyncSound → resynced.outcome ≡ kept → ResyncGenerates auc.seqhe
    -- 'Otherwise MAC-S is verified and SEQ_HE first becomes SEQ_MS.'
    pub out_of_range : ResyncAsking → ResyncSized → range ≡ false → right ≡ true → ms + resync_n ≤ resync_limit → resynced.outcome ≡ reset
    pub reset_generates : ResyncSound → resynced.outcome ≡ reset → ResyncGenerates ms
    -- 5: 'out of range and MAC-S wrong'
    pub refusal5 : ResyncAsking → ResyncSized → range ≡ false → right ≡ false → resynced.outcome ≡ refused 5
    pub number5 : ResyncAsking → ResyncSized → range ≡ false → right ≡ false → refusal_of resynced.outcome ≡ 5
    pub refusal6 : ResyncAsking → ResyncSized → Past → resynced.outcome ≡ refused 6
    pub number6 : ResyncAsking → ResyncSized → Past → refusal_of resynced.outcome ≡ 6
    pub stays : (refusal_of resynced.outcome ≡ 0 → ⊥) → Stays scheme family auc count resync_n rands buffer resynced
    -- a valid record is followed by a valid record
    pub stays_valid : valid_auc scheme family auc ≡ true → valid_auc scheme family resynced.auc ≡ true

pub record AucPromise (scheme : Scheme) (family : Family) : Type 0 where
  pub orders : (auc : Auc) (count : ℕ) (rands buffer : Octets) → OrderLaws scheme family auc count rands buffer
  pub resyncs : (auc : Auc) (count : ℕ) (rands buffer rand auts : Octets) → ResyncLaws scheme family auc count rands buffer rand auts
  -- 'a count of 0 means the default, 5', the most that a batch has
  pub default_order : (auc : Auc) (rands buffer : Octets)
      → order scheme family auc 0 rands buffer ≡ order scheme family auc most_vectors rands buffer
  pub default_resync : (auc : Auc) (rands buffer rand auts : Octets)
      → resync scheme family auc 0 rands buffer rand auts ≡ resync scheme family auc most_vectors rands buffer rand auts
  -- refusal 1: 'unknown set, SEQ, index past its range'
  pub valid : (auc : Auc) → (valid_auc scheme family auc ≡ true) ↔ (
      (family.admits auc.edition auc.keys ≡ true)
      × (auc.seqhe ≤ limit (width_of scheme auc.edition))
      × (auc.next < indices (width_of scheme auc.edition))
      )
  pub new_valid : (edition : ℕ) (keys : Keys) (amf : Octets) → family.admits edition keys ≡ true
      → valid_auc scheme family (new_auc edition keys amf) ≡ true
  pub range : (seqhe seqms n : ℕ) → (in_range seqhe seqms n ≡ true) ↔ Range seqhe seqms n
  pub pair : (rands : Octets) (n i j : ℕ) → equal_pair rands n ≡ equal_at i j → Earliest rands n i j
  pub no_pair : (rands : Octets) (n : ℕ) → equal_pair rands n ≡ unequal
      → (i j : ℕ) → i < j → j < n → rand_at rands i ≡ rand_at rands j → ⊥
  -- 'The vector at place k (from 0) of a batch is handed back as that part': where it begins, and its octets
  pub at_offset : (size k n : ℕ) → PlaceOf size k n → vector_offset size k ≡ some (vector_size * k)
  pub at_place : (batch : Octets) (k n : ℕ) → PlaceOf (length batch) k n → vector_part batch k ≡ part (vector_size * k) vector_size batch
  -- 'an empty part stands for refusal 3, the only one'
  pub no_offset : (size k : ℕ) → ((n : ℕ) → PlaceOf size k n → ⊥) → vector_offset size k ≡ none
  pub no_place : (batch : Octets) (k : ℕ) → ((n : ℕ) → PlaceOf (length batch) k n → ⊥) → vector_part batch k ≡ []
