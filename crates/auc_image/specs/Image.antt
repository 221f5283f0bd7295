-- The packed image of an AuC's record (document 01: centre), most significant bit first: edition, set, K and OPc, then AMF, then SEQ_HE and
-- the next index. Document 01, 'Numbers and records'; document 02, #104. What writing and reading it answer: `images`, of `format`.
-- Assumes nothing: these are definitions.
use Rattle.std.specs.Prelude.{ℕ, ◌+◌, List, ◌++◌}
use Rattle.octets.specs.Octets.{Octets, zeros, part, digits, number, encode, decode}
use Rattle.aka.specs.Layout.{amf_size, sqn_size}
use Rattle.aka.specs.Functions.{Family}
use Rattle.aka.specs.Sequence.{Scheme, width_of, sqn_bits, seq_bits}
use Rattle.aka.specs.Auc.{Auc, new_auc, valid_auc}
use Rattle.images.specs.Head.{head_size, head, edition_in, keys_in, admitted_head, no_keys}
use Rattle.images.specs.Images.{Format}
pub use Rattle.images.specs.Images.{Read}
unfoldable pub use Rattle.images.specs.Images.{write_answer, read_answer}

abbrev pub amf_at : ℕ
amf_at = head_size

-- SEQ_HE and the next index are as long as an SQN
abbrev pub counters_at : ℕ
counters_at = amf_at + amf_size

abbrev pub image_size : ℕ
image_size = counters_at + sqn_size

-- the bits of the last octets
abbrev pub bits_in : Octets → List ℕ
bits_in x = digits 2 sqn_bits (decode (part counters_at sqn_size x))

-- SEQ_HE in 48 - w bits, then the next index in w bits
abbrev pub bits : (w : ℕ) → Auc → List ℕ
bits w auc = digits 2 (seq_bits w) auc.seqhe ++ digits 2 w auc.next

module _ (scheme : Scheme) where
  -- by the record's own edition
  unfoldable pub image : Auc → Octets
  image auc = head auc.edition auc.keys ++ (auc.amf ++ encode sqn_size (number 2 (bits (width_of scheme auc.edition) auc)))

  -- the record in an image
  unfoldable pub read_image : Octets → Auc
  read_image x =
      let w = width_of scheme (edition_in x) in
      record {
        edition = edition_in x;
        keys = keys_in x;
        amf = part amf_at amf_size x;
        seqhe = number 2 (part 0 (seq_bits w) (bits_in x));
        next = number 2 (part (seq_bits w) w (bits_in x));
      }

  -- SEQ_HE and next index of their bits are never past their range, so only the head can be unknown
  abbrev pub format : Family → Format Auc
  format family = record {
    edition = λ auc. auc.edition;
    valid = valid_auc scheme family;
    size = λ edition. image_size;
    image = image;
    admitted = admitted_head family;
    record_in = read_image;
    zero = new_auc 0 no_keys (zeros amf_size);
  }
