-- The packed image of a USIM (document 01: card), most significant bit first: edition, set, K and OPc, then a place for each index of its
-- edition. Document 01, 'Numbers and records'; document 02, #104. What writing and reading it answer: `images`, of `format`. Assumes
-- nothing: these are definitions.
use Rattle.std.specs.Prelude.{ℕ, ◌+◌, ◌-◌, ◌*◌, ◌/◌, ◌^◌, ◌++◌, take}
use Rattle.octets.specs.Octets.{Octets, zeros, part, digits, number, encode, decode}
use Rattle.aka.specs.Functions.{Family}
use Rattle.aka.specs.Sequence.{Scheme, width_of, indices, seq_bits}
use Rattle.aka.specs.Usim.{Usim, new_usim, valid_usim}
use Rattle.images.specs.Head.{head_size, head, edition_in, keys_in, admitted_head, no_keys}
use Rattle.images.specs.Images.{Format}
pub use Rattle.images.specs.Images.{Read}
unfoldable pub use Rattle.images.specs.Images.{write_answer, read_answer}

abbrev pub places_at : ℕ
places_at = head_size

-- `w` is the width of the index in bits
module _ (w : ℕ) where
  -- the places of all indices, in octets of 8 bits
  abbrev pub places_size : ℕ
  places_size = seq_bits w * indices w / 8

  abbrev pub image_size : ℕ
  image_size = places_at + places_size

module _ (scheme : Scheme) where
  -- a place is a SEQ; the places of all indices are one number. Those behind them are 0 and are not written
  unfoldable pub image : Usim → Octets
  image usim =
      let w = width_of scheme usim.edition in
      head usim.edition usim.keys ++ encode (places_size w) (number (2 ^ seq_bits w) (take (indices w) usim.places))

  -- the record in an image
  unfoldable pub read_image : Octets → Usim
  read_image x =
      let w = width_of scheme (edition_in x) in
      record {
        edition = edition_in x;
        keys = keys_in x;
        places = digits (2 ^ seq_bits w) (indices w) (decode (part places_at (places_size w) x)) ++ zeros (scheme.places - indices w);
      }

  -- a place of `seq_bits` bits is never past its range, so only the head can be unknown
  abbrev pub format : Family → Format Usim
  format family = record {
    edition = λ usim. usim.edition;
    valid = valid_usim scheme family;
    size = λ edition. image_size (width_of scheme edition);
    image = image;
    admitted = admitted_head family;
    record_in = read_image;
    zero = new_usim scheme 0 no_keys;
  }
