-- The image of an AuC's record and its reader undo each other, so that reading and writing give back what the other took. Assumes nothing.
use Prim.Native.Nat.{ℕ, ◌+◌, ◌^◌, ◌<◌}
use mathlib.Core.Bool.{true}
use mathlib.Core.List.{◌++◌}
use mathlib.Core.Path.{◌≡◌, refl, ap, ap₂, ◌∙◌}
use native.Mathlib.Omega.{arith}
use lib.ListN.{length, length-append}
use lib.Pow.{lt_of_le_ones, le_ones}
use Rattle.octets.specs.Octets.{Octets, Below, part, number, encode}
use Rattle.octets.proofs.Numbers.{length_digits}
use Rattle.octets.proofs.Parts.{front, past, whole, meet, length_part}
use Rattle.octets.proofs.Ranges.{below_part}
use Rattle.functions.specs.Sets.{sets}
use Rattle.aka.specs.Layout.{amf_size, sqn_size}
use Rattle.aka.specs.Functions.{Family}
use Rattle.aka.specs.Auc.{Auc, valid_auc, AucShaped}
use Rattle.aka.specs.Sequence.{Scheme, Fitting, width_of, sqn_bits, seq_bits}
use Rattle.aka.specs.Editions.{editions, is_edition}
use Rattle.aka.proofs.Editions.{fitting}
use Rattle.aka.proofs.Outcomes.{valid_iff}
use Rattle.images.specs.Head.{head, head_size, edition_in, keys_in, admitted_head}
use Rattle.images.specs.Images.{RoundTrips}
use Rattle.images.proofs.Heads.{Few, few, known_edition, length_head, read_edition, read_head, admitted_head_lem, write_head}
use Rattle.images.proofs.RoundTrips as images
use Rattle.auc_image.specs.RoundTrips.{AucImagePromise}
use Rattle.auc_image.specs.Image.{amf_at, counters_at, image_size, bits, bits_in, image, read_image, format}
use Rattle.auc_image.proofs.Bits.{read_first, read_second, first_fits, second_fits, write_bits}

-- ---- the image alone, for any index width that leaves room for SEQ_HE

module _ (scheme : Scheme) (fits : Fitting scheme) where
  abbrev width_at : Auc → ℕ
  width_at auc = width_of scheme auc.edition

  filled : (edition : ℕ) → seq_bits (width_of scheme edition) + width_of scheme edition ≡ sqn_bits
  filled edition = omega (arith, fits.width edition)

  -- SEQ_HE and the next index in octets
  abbrev packed : Auc → Octets
  packed auc = encode sqn_size (number 2 (bits (width_at auc) auc))

  length_packed : (auc : Auc) → length (packed auc) ≡ sqn_size
  length_packed auc = length_digits 256 sqn_size (number 2 (bits (width_at auc) auc))

  length_image : (auc : Auc) → AucShaped auc → length (image scheme auc) ≡ image_size
  unfolding image
  length_image auc shaped =
      simp (length-append, length_digits) (omega (arith, length_head auc.edition auc.keys shaped.keys, shaped.amf))

  edition_image : (auc : Auc) → Few auc.edition auc.keys → edition_in (image scheme auc) ≡ auc.edition
  unfolding image
  edition_image auc small = read_edition auc.edition auc.keys (auc.amf ++ packed auc) small

  admitted_image : (family : Family) (auc : Auc) → AucShaped auc → Few auc.edition auc.keys
      → family.admits auc.edition auc.keys ≡ true → admitted_head family (image scheme auc) ≡ true
  unfolding image
  admitted_image family auc shaped small admitted =
      admitted_head_lem auc.edition auc.keys (auc.amf ++ packed auc) small family shaped.keys admitted

  -- what is read, at the width of the record's edition
  read_at : (w edition : ℕ) → Octets → Auc
  read_at w edition x = record {
    edition = edition;
    keys = keys_in x;
    amf = part amf_at amf_size x;
    seqhe = number 2 (part 0 (seq_bits w) (bits_in x));
    next = number 2 (part (seq_bits w) w (bits_in x));
  }

  read_image_lem : (auc : Auc) → AucShaped auc → Few auc.edition auc.keys
      → auc.seqhe < 2 ^ seq_bits (width_at auc) → auc.next < 2 ^ width_at auc → read_image scheme (image scheme auc) ≡ auc
  unfolding image read_image read_at
  read_image_lem auc shaped small seq index =
      ap (λ (e : ℕ). read_at (width_of scheme e) e (image scheme auc)) (edition_image auc small)
      ∙ (λ i. record {
        edition = auc.edition;
        keys = read_head auc.edition auc.keys (amf ++ packed auc) small shaped.keys i;
        amf = (past first (amf ++ packed auc) amf_at 0 amf_size size ∙ front amf (packed auc) amf_size shaped.amf) i;
        seqhe = read_first (seq_bits w) w (filled auc.edition) counters auc.seqhe auc.next seq index last i;
        next = read_second (seq_bits w) w (filled auc.edition) counters auc.seqhe auc.next seq index last i;
      })
    where
      w : ℕ
      w = width_at auc

      first : Octets
      first = head auc.edition auc.keys

      amf : Octets
      amf = auc.amf

      counters : Octets
      counters = part counters_at sqn_size (image scheme auc)

      size : length first ≡ head_size
      size = length_head auc.edition auc.keys shaped.keys

      last : counters ≡ packed auc
      last =
          past first (amf ++ packed auc) head_size amf_size sqn_size size
          ∙ past amf (packed auc) amf_size 0 sqn_size shaped.amf
          ∙ whole (packed auc) sqn_size (length_packed auc)

  write_image : (x : Octets) → length x ≡ image_size → Below 256 x → image scheme (read_image scheme x) ≡ x
  unfolding image read_image
  write_image x size b =
      let w = width_of scheme (edition_in x) in
      let last = part counters_at sqn_size x in
      let octets = below_part 256 counters_at sqn_size x (omega arith) b in
      ap₂ (λ (a c : Octets). a ++ (part amf_at amf_size x ++ c)) (write_head x (omega arith))
      (write_bits (seq_bits w) w (filled (edition_in x)) last (length_part counters_at sqn_size x (omega arith)) octets)
      ∙ ap (λ (l : Octets). part 0 head_size x ++ l) (meet amf_at amf_size sqn_size x)
      ∙ meet 0 head_size (amf_size + sqn_size) x
      ∙ whole x image_size size

  valid_read : (family : Family) (x : Octets) → admitted_head family x ≡ true → valid_auc scheme family (read_image scheme x) ≡ true
  unfolding read_image
  valid_read family x admitted =
      let w = width_of scheme (edition_in x) in
      let last = part counters_at sqn_size x in
      (valid_iff scheme family (read_image scheme x)).1 (
        admitted,
        le_ones (seq_bits w) (first_fits (seq_bits w) w (filled (edition_in x)) last),
        second_fits (seq_bits w) w (filled (edition_in x)) last,
      )

  edition_read : (x : Octets) → (read_image scheme x).edition ≡ edition_in x
  unfolding read_image
  edition_read x = refl

-- ---- and so for our editions and function sets

faithful : images.Faithful (format editions sets) AucShaped
faithful = record {
  good_image = λ auc shaped valid.
      let admitted = ((valid_iff editions sets auc).0 valid).0 in
      let small = few auc.edition auc.keys admitted in
      let size = length_image editions fitting auc shaped in
      record {
        some = λ e. omega (arith, size, e);
        known = ap is_edition (edition_image editions fitting auc small) ∙ known_edition auc.edition auc.keys admitted;
        size = size;
        admitted = admitted_image editions fitting sets auc shaped small admitted;
      };
  read_image_lem = λ auc shaped valid.
      let all = (valid_iff editions sets auc).0 valid in
      read_image_lem editions fitting auc shaped (few auc.edition auc.keys all.0)
      (lt_of_le_ones (seq_bits (width_of editions auc.edition)) all.1) all.2;
  edition_read = edition_read editions fitting;
  write_image = λ x good b. write_image editions fitting x good.size b;
  valid_read = λ x good. valid_read editions fitting sets x good.admitted;
}

pub round_trips : RoundTrips (format editions sets) AucShaped
round_trips = images.round_trips (format editions sets) AucShaped faithful

pub promise : AucImagePromise
promise = record { size = refl; trips = round_trips }
