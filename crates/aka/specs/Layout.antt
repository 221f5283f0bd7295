-- How AUTN, AUTS, a vector, a triplet and a handset's answer lie in octets: sizes and places, writing and reading; and the parts of lent
-- octets. TS 33.102 §6.3.2, §6.3.3 and §6.8; document 01, 'Numbers and records'; document 02, #101 and #102. Assumes nothing.
use Rattle.std.specs.Prelude.{ℕ, zero, suc, ◌+◌, ◌*◌, ◌/◌, ◌%◌, Bool, true, ◌&&◌, cond, List, [], ◌∷◌, ◌++◌, eqb, ltb, leb, length}
use Rattle.std.proofs.Math.Option.{Option, none, some}
use Rattle.octets.specs.Octets.{Octets, part}

-- ---- sizes, in octets

abbrev pub key_size : ℕ  -- K and OPc
key_size = 16

abbrev pub rand_size : ℕ
rand_size = 16

abbrev pub res_size : ℕ  -- RES and XRES
res_size = 8

abbrev pub ck_size : ℕ
ck_size = 16

abbrev pub ik_size : ℕ
ik_size = 16

abbrev pub sqn_size : ℕ  -- SQN and SQN_MS, AK and AK*
sqn_size = 6

abbrev pub amf_size : ℕ
amf_size = 2

abbrev pub mac_size : ℕ  -- MAC and MAC-S
mac_size = 8

-- ---- AUTN: SQN xor AK, AMF, MAC

abbrev pub amf_at : ℕ
amf_at = sqn_size

abbrev pub mac_at : ℕ
mac_at = amf_at + amf_size

abbrev pub autn_size : ℕ  -- 16
autn_size = mac_at + mac_size

pub record Autn : Type 0 where
  pub concealed : Octets  -- SQN xor AK
  pub amf : Octets
  pub mac : Octets

unfoldable pub write_autn : Autn → Octets
write_autn a = a.concealed ++ (a.amf ++ a.mac)

unfoldable pub read_autn : Octets → Autn
read_autn x = record { concealed = part 0 sqn_size x; amf = part amf_at amf_size x; mac = part mac_at mac_size x }

-- ---- AUTS: SQN_MS xor AK*, MAC-S

abbrev pub mac_s_at : ℕ
mac_s_at = sqn_size

abbrev pub auts_size : ℕ  -- 14
auts_size = mac_s_at + mac_size

pub record Auts : Type 0 where
  pub concealed : Octets  -- SQN_MS xor AK*
  pub mac : Octets  -- MAC-S

unfoldable pub write_auts : Auts → Octets
write_auts a = a.concealed ++ a.mac

unfoldable pub read_auts : Octets → Auts
read_auts x = record { concealed = part 0 sqn_size x; mac = part mac_s_at mac_size x }

-- ---- a response

-- RES or XRES as it lies in a vector and in a handset's answer: it has one length, and so it stands there as it is
abbrev pub write_response : Octets → Octets
write_response res = res

abbrev pub response_size : ℕ
response_size = res_size

-- ---- a vector: RAND, XRES, CK, IK, AUTN

-- where its parts begin, and its size: 72 octets
abbrev pub xres_at : ℕ
xres_at = rand_size

abbrev pub ck_at : ℕ
ck_at = xres_at + response_size

abbrev pub ik_at : ℕ
ik_at = ck_at + ck_size

abbrev pub autn_at : ℕ
autn_at = ik_at + ik_size

abbrev pub vector_size : ℕ
vector_size = autn_at + autn_size

pub record Vector : Type 0 where
  pub rand : Octets
  pub xres : Octets
  pub ck : Octets
  pub ik : Octets
  pub autn : Octets

unfoldable pub write_vector : Vector → Octets
write_vector v = v.rand ++ (write_response v.xres ++ (v.ck ++ (v.ik ++ v.autn)))

unfoldable pub read_vector : Octets → Vector
read_vector x = record {
  rand = part 0 rand_size x;
  xres = part xres_at res_size x;
  ck = part ck_at ck_size x;
  ik = part ik_at ik_size x;
  autn = part autn_at autn_size x;
}

-- ---- a triplet, for a GSM phone: RAND, SRES, Kc

abbrev pub sres_size : ℕ
sres_size = 4

abbrev pub kc_size : ℕ
kc_size = 8

-- where its parts begin, and its size: 28 octets
abbrev pub sres_at : ℕ
sres_at = rand_size

abbrev pub kc_at : ℕ
kc_at = sres_at + sres_size

abbrev pub triplet_size : ℕ
triplet_size = kc_at + kc_size

pub record Triplet : Type 0 where
  pub rand : Octets
  pub sres : Octets
  pub kc : Octets

unfoldable pub write_triplet : Triplet → Octets
write_triplet t = t.rand ++ (t.sres ++ t.kc)

unfoldable pub read_triplet : Octets → Triplet
read_triplet x = record { rand = part 0 rand_size x; sres = part sres_at sres_size x; kc = part kc_at kc_size x }

-- ---- the two kinds: a vector or a triplet

pub data Kind : Type 0 where
  vector triplet : Kind

-- what stands before an item in octets that hold either kind: one octet that names the kind
abbrev pub kind_size : ℕ
kind_size = 1

abbrev pub kind_octet : Kind → ℕ
kind_octet vector = 0
kind_octet triplet = 1

-- an item is a vector or a triplet
abbrev pub item_size : Kind → ℕ
item_size vector = vector_size
item_size triplet = triplet_size

-- ---- the answer of a handset: RES, CK, IK; and what its store has: RAND, and the answer behind it

abbrev pub answer_size : ℕ  -- 40
answer_size = response_size + ck_size + ik_size

unfoldable pub write_answer : (res ck ik : Octets) → Octets
write_answer res ck ik = write_response res ++ (ck ++ ik)

abbrev pub answer_at : ℕ
answer_at = rand_size

abbrev pub store_size : ℕ  -- 56
store_size = answer_at + answer_size

-- ---- octets, or places of a card, that hold nothing

unfoldable pub all_zero : List ℕ → Bool
all_zero [] = true
all_zero (x ∷ rest) = eqb x 0 && all_zero rest

-- ---- lent octets: RANDs and a batch, one behind the other; places count from 0

-- the most vectors of a batch
abbrev pub most_vectors : ℕ
most_vectors = 5

abbrev pub rand_at : Octets → ℕ → Octets
rand_at rands k = part (rand_size * k) rand_size rands

abbrev pub octets_at : Octets → ℕ → Octets
octets_at batch k = part (vector_size * k) vector_size batch

abbrev pub vector_at : Octets → ℕ → Vector
vector_at batch k = read_vector (octets_at batch k)

-- a batch of `size` octets has one to five whole vectors
abbrev pub is_batch : (size : ℕ) → Bool
is_batch size = leb vector_size size && leb size (vector_size * most_vectors) && eqb (size % vector_size) 0

-- refusal 3 does not apply to place k of a batch of `size` octets: k is a place of its vectors
unfoldable pub is_place : (size k : ℕ) → Bool
is_place size k = is_batch size && ltb k (size / vector_size)

-- where the vector at place k begins in a batch of `size` octets; none stands for refusal 3
unfoldable pub vector_offset : (size k : ℕ) → Option ℕ
vector_offset size k = cond (is_place size k) (some (vector_size * k)) none

-- the vector that begins there
abbrev pub part_from : Option ℕ → Octets → Octets
part_from none batch = []
part_from (some offset) batch = part offset vector_size batch

-- the vector at place k, as a part of the caller's own octets; an empty part stands for refusal 3
abbrev pub vector_part : Octets → ℕ → Octets
vector_part batch k = part_from (vector_offset (length batch) k) batch

-- f 0, f 1, .., f (n - 1), one behind the other
unfoldable pub joined : (ℕ → Octets) → ℕ → Octets
joined f zero = []
joined f (suc n) = joined f n ++ f n
