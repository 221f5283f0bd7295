-- The worked table of document 01 as one statement: eight challenges to a USIM ('What the card does'), four resynchronisations and
-- two orders ('What the centre does'). Of edition 1, document 01's; for every lawful family, and whatever the keys, AMF and RANDs are.
-- Assumes nothing.
use Rattle.std.specs.Prelude.{ℕ, ◌*◌, ◌<◌, true, List, ◌≡◌, length, replicate, set, drop}
use Rattle.octets.specs.Octets.{Octets, xor, encode}
use Rattle.aka.specs.Layout.{all_zero, rand_size, amf_size, sqn_size, mac_size, vector_size, write_autn, vector_at}
use Rattle.aka.specs.Functions.{Keys, Functions, Family, Shaped, Lawful, dummy_amf}
use Rattle.aka.specs.Sequence.{width_of, indices, sqn_of}
use Rattle.aka.specs.Editions.{editions, card_places}
use Rattle.aka.specs.Usim.{Usim, UsimAnswer, accepted, mac_failure, sync_failure, challenge, make_auts, highest, sqn_ms}
use Rattle.aka.specs.Auc.{Auc, AucAnswer, unequal, given, kept, reset, refused, equal_pair, make_autn, order, resync}
use Rattle.aka.specs.Demand3.{vector_seq}

-- what the table leaves open
pub record Sample : Type 0 where
  pub keys : Keys
  pub amf : Octets
  pub rand : Octets
  -- the places of a USIM whose SEQ_MS is 100
  pub places100 : List ℕ
  pub next : ℕ
  pub rands : Octets
  pub buffer : Octets

-- the edition of its records, and the width of their index
abbrev pub edition : ℕ
edition = 1

abbrev pub width : ℕ
width = width_of editions edition

-- its batches have five vectors
abbrev pub five : ℕ
five = 5

-- and what it takes for granted: valid records, nothing to refuse
pub record Proper (family : Family) (x : Sample) : Type 0 where
  pub admitted : family.admits edition x.keys ≡ true
  pub keys : Shaped x.keys
  pub amf : length x.amf ≡ amf_size
  pub rand : length x.rand ≡ rand_size
  pub places100_size : length x.places100 ≡ card_places
  pub places100_tail : all_zero (drop (indices width) x.places100) ≡ true
  pub places100_highest : highest x.places100 ≡ 100
  pub next : x.next < indices width
  pub rands : length x.rands ≡ rand_size * five
  pub buffer : length x.buffer ≡ vector_size * five
  pub unequal_rands : equal_pair x.rands five ≡ unequal

-- all 0
abbrev pub new : List ℕ
new = replicate card_places 0

-- place 3 is 10, rest 0
abbrev pub used : List ℕ
used = set new 3 10

module _ (family : Family) (x : Sample) where
  abbrev F : Functions
  F = family.under x.keys

  abbrev pub usim_with : (places : List ℕ) → Usim
  usim_with places = record { edition = edition; keys = x.keys; places = places }

  abbrev pub sqn_with : (seq ind : ℕ) → Octets
  sqn_with seq ind = encode sqn_size (sqn_of width seq ind)

  -- the answer to a challenge with SEQ, IND and a right MAC
  abbrev pub asked : (places : List ℕ) (seq ind : ℕ) → UsimAnswer
  asked places seq ind = challenge editions family (usim_with places) x.rand (make_autn F (sqn_with seq ind) x.amf x.rand)

  -- the answer to the same challenge with this MAC
  abbrev pub asked_with : (mac : Octets) (places : List ℕ) (seq ind : ℕ) → UsimAnswer
  asked_with mac places seq ind =
      challenge editions family (usim_with places) x.rand
      (write_autn (record { concealed = xor (sqn_with seq ind) (F.f5 x.rand); amf = x.amf; mac = mac }))

  abbrev pub auc_with : (seqhe : ℕ) → Auc
  auc_with seqhe = record { edition = edition; keys = x.keys; amf = x.amf; seqhe = seqhe; next = x.next }

  -- an order of five
  abbrev pub ordered : (seqhe : ℕ) → AucAnswer
  ordered seqhe = order editions family (auc_with seqhe) five x.rands x.buffer

  -- a resynchronisation with the AUTS of the USIM whose SEQ_MS is 100
  abbrev pub resynced : (seqhe : ℕ) → AucAnswer
  resynced seqhe =
      resync editions family (auc_with seqhe) five x.rands x.buffer x.rand
      (make_auts F (encode sqn_size (sqn_ms width (usim_with x.places100))) dummy_amf x.rand)

  abbrev pub first_seq : AucAnswer → ℕ
  first_seq answer = vector_seq width F (vector_at answer.batch 0)

  pub record Table : Type 0 where
    -- places, SEQ and IND, verdict
    pub row1 : (asked new 0 0).verdict ≡ sync_failure
    pub row2 : (asked new 268435456 9).verdict ≡ accepted
    pub row3 : (asked new 268435457 9).verdict ≡ sync_failure
    pub row4 : (asked used 10 3).verdict ≡ sync_failure
    pub row5 : (asked used 11 3).verdict ≡ accepted
    pub row6 : (asked used 7 4).verdict ≡ accepted
    pub row7 : (asked used 10 4).verdict ≡ accepted
    -- SQN_MS keeps index 3
    pub row7_index : sqn_ms width (asked used 10 4).usim ≡ sqn_of width 10 3
    -- MAC wrong
    pub row8 : (mac : Octets) → length mac ≡ mac_size → (mac ≡ F.f1 (sqn_with 10 3) x.rand x.amf → ⊥)
        → (asked_with mac used 10 3).verdict ≡ mac_failure
    -- with SEQ_MS 100, n = 5: SEQ_HE 100 is kept, 99 reset, 268435551 kept, 268435552 reset
    pub he100 : (resynced 100).outcome ≡ kept
    pub he99 : (resynced 99).outcome ≡ reset
    pub he268435551 : (resynced 268435551).outcome ≡ kept
    pub he268435552 : (resynced 268435552).outcome ≡ reset
    -- after a reset the first SEQ is 101
    pub first99 : first_seq (resynced 99) ≡ 101
    pub first268435552 : first_seq (resynced 268435552) ≡ 101
    -- a batch of 5 from SEQ_HE 8796093022202 is given; from 8796093022203 it is refused
    pub he8796093022202 : (ordered 8796093022202).outcome ≡ given
    pub he8796093022203 : (ordered 8796093022203).outcome ≡ refused 6

abbrev pub WorkedTable : Type 0
WorkedTable = (family : Family) → Lawful family → (x : Sample) → Proper family x → Table family x
