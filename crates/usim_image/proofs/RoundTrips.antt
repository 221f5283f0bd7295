-- The image of a USIM and its reader undo each other, so that reading and writing give back what the other took. Assumes nothing.
use Prim.Native.Nat.{ℕ, ◌-◌, ◌*◌, ◌^◌, ◌≤◌}
use mathlib.Core.Bool.{true}
use mathlib.Core.List.{List, ◌++◌}
use mathlib.Core.Path.{◌≡◌, refl, sym, ap, ap₂, ◌∙◌, subst}
use native.Mathlib.Omega.{arith}
use lib.ListN.{length, take, drop, length-append, length-take, length-drop, take-append-drop}
use lib.Pow.{pow_pos}
use lib.Seq.{take_at, drop_at, get_or-take}
use Rattle.octets.specs.Octets.{Octets, Below, zeros, part, digits, number, encode, decode}
use Rattle.octets.proofs.Numbers.{length_digits, digits_below}
use Rattle.octets.proofs.Parts.{past, whole, meet, length_part}
use Rattle.octets.proofs.Ranges.{below_part}
use Rattle.functions.specs.Sets.{sets}
use Rattle.aka.specs.Functions.{Family}
use Rattle.aka.specs.Layout.{all_zero}
use Rattle.aka.specs.Sequence.{Scheme, Fitting, width_of, indices, limit, seq_bits}
use Rattle.aka.specs.Editions.{editions, is_edition, row_of}
use Rattle.aka.specs.Usim.{Usim, valid_usim, UsimShaped}
use Rattle.aka.proofs.Editions.{fitting, each_row}
use Rattle.aka.proofs.Held.{all_zeros, zeros_are}
use Rattle.aka.proofs.Places.{within_below, within_append, zeros_within}
use Rattle.aka.proofs.Verdicts.{valid_parts}
use Rattle.packing.proofs.Repacked.{unpack_pack, pack_unpack}
use Rattle.images.specs.Head.{head, head_size, edition_in, keys_in, admitted_head}
use Rattle.images.specs.Images.{RoundTrips}
use Rattle.images.proofs.Heads.{Few, few, known_edition, length_head, read_edition, read_head, admitted_head_lem, write_head}
use Rattle.images.proofs.RoundTrips as images
use Rattle.usim_image.specs.RoundTrips.{UsimImagePromise}
use Rattle.usim_image.specs.Image.{places_at, places_size, image_size, image, read_image, format}

-- ---- the image alone, for any scheme whose places fill whole octets

module _ (scheme : Scheme) (fits : Fitting scheme)
    (filled : (edition : ℕ)
    → seq_bits (width_of scheme edition) * indices (width_of scheme edition) ≡ 8 * places_size (width_of scheme edition)) where
  abbrev width_at : Usim → ℕ
  width_at usim = width_of scheme usim.edition

  -- the places of the indices, and those places in octets
  abbrev front : Usim → List ℕ
  front usim = take (indices (width_at usim)) usim.places

  abbrev packed : Usim → Octets
  packed usim = encode (places_size (width_at usim)) (number (2 ^ seq_bits (width_at usim)) (front usim))

  length_packed : (usim : Usim) → length (packed usim) ≡ places_size (width_at usim)
  length_packed usim = length_digits 256 (places_size (width_at usim)) (number (2 ^ seq_bits (width_at usim)) (front usim))

  length_image : (usim : Usim) → UsimShaped scheme usim → length (image scheme usim) ≡ image_size (width_at usim)
  unfolding image
  length_image usim shaped = simp (length-append, length_digits) (omega (arith, length_head usim.edition usim.keys shaped.keys))

  edition_image : (usim : Usim) → Few usim.edition usim.keys → edition_in (image scheme usim) ≡ usim.edition
  unfolding image
  edition_image usim small = read_edition usim.edition usim.keys (packed usim) small

  admitted_image : (family : Family) (usim : Usim) → UsimShaped scheme usim → Few usim.edition usim.keys
      → family.admits usim.edition usim.keys ≡ true → admitted_head family (image scheme usim) ≡ true
  unfolding image
  admitted_image family usim shaped small admitted =
      admitted_head_lem usim.edition usim.keys (packed usim) small family shaped.keys admitted

  -- what is read, at the width of the record's edition
  abbrev places_read : (w : ℕ) → Octets → List ℕ
  places_read w x = digits (2 ^ seq_bits w) (indices w) (decode (part places_at (places_size w) x)) ++ zeros (scheme.places - indices w)

  abbrev read_at : (w edition : ℕ) → Octets → Usim
  read_at w edition x = record { edition = edition; keys = keys_in x; places = places_read w x }

  module _ (usim : Usim) (shaped : UsimShaped scheme usim) where
    abbrev w : ℕ
    w = width_at usim

    long : indices w ≤ length usim.places
    long = rw shaped.places (fits.places usim.edition)

    length_front : length (front usim) ≡ indices w
    length_front = length-take (indices w) usim.places ∙ omega (arith, long)

    -- the places of a valid card: those of the indices, and zeros
    places_are : all_zero (drop (indices w) usim.places) ≡ true → front usim ++ zeros (scheme.places - indices w) ≡ usim.places
    places_are empty =
        let size : length (drop (indices w) usim.places) ≡ scheme.places - indices w =
        length-drop (indices w) usim.places ∙ ap (λ (n : ℕ). n - indices w) shaped.places in
        ap (λ (n : ℕ). front usim ++ zeros n) (sym size)
        ∙ ap (λ (l : List ℕ). front usim ++ l) (sym (zeros_are (drop (indices w) usim.places) empty))
        ∙ take-append-drop (indices w) usim.places

    places_back : Below (2 ^ seq_bits w) (front usim) → digits (2 ^ seq_bits w) (indices w) (decode (packed usim)) ≡ front usim
    places_back b =
        subst (λ (n : ℕ). digits (2 ^ seq_bits w) n (decode (packed usim)) ≡ front usim) length_front
        (unpack_pack (seq_bits w) (places_size w) (front usim) b (rw length_front (filled usim.edition)))

    read_image_lem : Few usim.edition usim.keys → Below (2 ^ seq_bits w) (front usim)
        → all_zero (drop (indices w) usim.places) ≡ true → read_image scheme (image scheme usim) ≡ usim
    unfolding image read_image
    read_image_lem small b empty =
        ap (λ (e : ℕ). read_at (width_of scheme e) e (image scheme usim)) (edition_image usim small)
        ∙ (λ i. record {
          edition = usim.edition;
          keys = read_head usim.edition usim.keys (packed usim) small shaped.keys i;
          places = (ap (λ (x : Octets). digits (2 ^ seq_bits w) (indices w) (decode x) ++ zeros (scheme.places - indices w)) last
              ∙ ap (λ (l : List ℕ). l ++ zeros (scheme.places - indices w)) (places_back b)
              ∙ places_are empty) i;
        })
      where
        last : part places_at (places_size w) (image scheme usim) ≡ packed usim
        last =
            past (head usim.edition usim.keys) (packed usim) places_at 0 (places_size w)
            (length_head usim.edition usim.keys shaped.keys)
            ∙ whole (packed usim) (places_size w) (length_packed usim)

  module _ (x : Octets) where
    abbrev v : ℕ
    v = width_of scheme (edition_in x)

    abbrev read : List ℕ
    read = digits (2 ^ seq_bits v) (indices v) (decode (part places_at (places_size v) x))

    length_read : length read ≡ indices v
    length_read = length_digits (2 ^ seq_bits v) (indices v) (decode (part places_at (places_size v) x))

    octets_back : length x ≡ image_size v → Below 256 x
        → encode (places_size v) (number (2 ^ seq_bits v) read) ≡ part places_at (places_size v) x
    octets_back size b =
        let n = places_size v in
        let y = part places_at n x in
        let long = length_part places_at n x (omega arith) in
        subst (λ (k : ℕ). encode k (number (2 ^ seq_bits v) read) ≡ y) long
        (pack_unpack (seq_bits v) (indices v) y (below_part 256 places_at n x (omega arith) b) (rw long (sym (filled (edition_in x)))))

    write_image : length x ≡ image_size v → Below 256 x → image scheme (read_image scheme x) ≡ x
    unfolding image read_image
    write_image size b =
        let n = places_size v in
        let front = take_at read (zeros (scheme.places - indices v)) (indices v) length_read in
        ap₂ (λ (a c : Octets). a ++ c) (write_head x (omega arith))
        (ap (λ (l : List ℕ). encode n (number (2 ^ seq_bits v) l)) front ∙ octets_back size b)
        ∙ meet 0 head_size n x
        ∙ whole x (image_size v) size

    valid_read : (family : Family) → admitted_head family x ≡ true → valid_usim scheme family (read_image scheme x) ≡ true
    unfolding valid_usim read_image
    valid_read family admitted =
        let within = (within_below (seq_bits v) read).1
        (digits_below (2 ^ seq_bits v) (indices v) (decode (part places_at (places_size v) x)) (pow_pos (seq_bits v))) in
        let behind = zeros (scheme.places - indices v) in
        rw (
          admitted,
          within_append (limit v) read behind within (zeros_within (limit v) (scheme.places - indices v)),
          drop_at read behind (indices v) length_read,
        ) (all_zeros (scheme.places - indices v))

    edition_read : (read_image scheme x).edition ≡ edition_in x
    unfolding read_image
    edition_read = refl

-- ---- and so for our editions and function sets

pub whole_octets : (edition : ℕ)
    → seq_bits (width_of editions edition) * indices (width_of editions edition) ≡ 8 * places_size (width_of editions edition)
whole_octets =
    each_row (λ row. seq_bits row.numbering.width * indices row.numbering.width ≡ 8 * places_size row.numbering.width) refl refl

pub below_front : (bits n : ℕ) (l : List ℕ) → Below (2 ^ bits) l → Below (2 ^ bits) (take n l)
below_front bits n l b i h =
    let size = length-take n l in
    rw (get_or-take n l i 0 (omega (arith, size, h))) (b i (omega (arith, size, h)))

faithful : images.Faithful (format editions sets) (UsimShaped editions)
faithful = record {
  good_image = λ usim shaped valid.
      let admitted = (valid_parts editions sets usim valid).0 in
      let small = few usim.edition usim.keys admitted in
      let size = length_image editions fitting whole_octets usim shaped in
      let same = edition_image editions fitting whole_octets usim small in
      record {
        some = λ e. omega (arith, size, e);
        known = ap is_edition same ∙ known_edition usim.edition usim.keys admitted;
        size = size ∙ ap (λ (e : ℕ). image_size (width_of editions e)) (sym same);
        admitted = admitted_image editions fitting whole_octets sets usim shaped small admitted;
      };
  read_image_lem = λ usim shaped valid.
      let parts = valid_parts editions sets usim valid in
      let w = width_of editions usim.edition in
      read_image_lem editions fitting whole_octets usim shaped (few usim.edition usim.keys parts.0)
      (below_front (seq_bits w) (indices w) usim.places ((within_below (seq_bits w) usim.places).0 parts.1)) parts.2;
  edition_read = edition_read editions fitting whole_octets;
  write_image = λ x good b. write_image editions fitting whole_octets x good.size b;
  valid_read = λ x good. valid_read editions fitting whole_octets x sets good.admitted;
}

pub round_trips : RoundTrips (format editions sets) (UsimShaped editions)
round_trips = images.round_trips (format editions sets) (UsimShaped editions) faithful

pub promise : UsimImagePromise
unfolding row_of
promise = record { size1 = refl; size2 = refl; trips = round_trips }
