-- Reading what was written gives the record, and writing what was read gives the octets: once, for any format whose image and reader undo
-- each other. Assumes nothing.
use Prim.Native.Nat.{ℕ, ◌<◌}
use mathlib.Core.Bool.{Bool, true, false, cond}
use mathlib.Core.Path.{◌≡◌, refl, sym, ap, ◌∙◌}
use native.Mathlib.Omega.{arith}
use borrow.Author.Tests.{eqb-true, eqb-false}
use lib.Dec.{eqb}
use lib.ListN.{length}
use Rattle.std.specs.Prelude.{Result, Ok, Err, IfOk}
use Rattle.images.specs.declared.Refused.{Refused}
use Rattle.octets.specs.Octets.{Octets, Below}
use Rattle.octets.proofs.Refusals.{passed}
use Rattle.aka.specs.Editions.{is_edition}
use Rattle.images.specs.Head.{edition_in}
use Rattle.images.specs.Images.{IsSound, read_of}
use Rattle.images.specs.Images.{Format, Written, Read, refused_read, write_answer, read_answer, RoundTrips}
use Rattle.images.proofs.Answers.{write_valid, read_known}

module _ {R : Type 0} (format : Format R) (Shaped : R → Type 0) where
  abbrev size_of : R → ℕ
  size_of r = format.size (format.edition r)

  -- an image of a known edition, of that edition's length, and of keys that it admits
  pub record Good (x : Octets) : Type 0 where
    pub some : length x ≡ 0 → ⊥
    pub known : is_edition (edition_in x) ≡ true
    pub size : length x ≡ format.size (edition_in x)
    pub admitted : format.admitted x ≡ true

  -- what is to be shown of a format: of the image of a valid record, and of the record in a good image
  pub record Faithful : Type 0 where
    pub good_image : (r : R) → Shaped r → format.valid r ≡ true → Good (format.image r)
    pub read_image_lem : (r : R) → Shaped r → format.valid r ≡ true → format.record_in (format.image r) ≡ r
    pub edition_read : (x : Octets) → format.edition (format.record_in x) ≡ edition_in x
    pub write_image : (x : Octets) → Good x → Below 256 x → format.image (format.record_in x) ≡ x
    pub valid_read : (x : Octets) → Good x → format.valid (format.record_in x) ≡ true

  module _ (faithful : Faithful) where
    good_read : (x : Octets) → Good x → read_answer format x ≡ record { refusal = 0; contents = format.record_in x }
    good_read x good = read_known format x good.some good.known good.size good.admitted

    -- what is read without refusal passed the tests
    module _ (x : Octets) (read : (read_answer format x).refusal ≡ 0) where
      no_refusal : (n : ℕ) → 0 < n → refused_read format n ≡ read_answer format x → ⊥
      no_refusal n h q = let none : n ≡ 0 = ap (λ (r : Read R). r.refusal) q ∙ read in omega arith

      first : (b : Bool) (rest : Read R) → cond b (refused_read format 3) rest ≡ read_answer format x
          → (b ≡ false) × (rest ≡ read_answer format x)
      first true rest e = absurd (no_refusal 3 (omega arith) e)
      first false rest e = (refl, e)

      good : Good x
      unfolding read_answer
      good =
          let one = first (eqb (length x) 0) _ refl in
          let two = passed (is_edition (edition_in x)) {refusal = refused_read format 1} (no_refusal 1 (omega arith)) one.1 in
          let long = eqb (length x) (format.size (edition_in x)) in
          let three = passed long {refusal = refused_read format 3} (no_refusal 3 (omega arith)) two.1 in
          let four = passed (format.admitted x) {refusal = refused_read format 1} (no_refusal 1 (omega arith)) three.1 in
          record {
            some = eqb-false (length x) 0 one.0;
            known = two.0;
            size = eqb-true (length x) (format.size (edition_in x)) three.0;
            admitted = four.0;
          }

      answer : read_answer format x ≡ record { refusal = 0; contents = format.record_in x }
      answer = good_read x good

      long : length x ≡ size_of (read_answer format x).contents
      long =
          good.size
          ∙ ap format.size (sym (ap (λ (r : Read R). format.edition r.contents) answer ∙ faithful.edition_read x))

      is_sound : (length x ≡ size_of (read_answer format x).contents) × (format.valid (read_answer format x).contents ≡ true)
      is_sound = (long, ap (λ (r : Read R). format.valid r.contents) answer ∙ faithful.valid_read x good)

    read_written : (r : R) (buffer : Octets) → Shaped r → format.valid r ≡ true → length buffer ≡ size_of r
        → read_answer format (write_answer format r buffer).image ≡ record { refusal = 0; contents = r }
    read_written r buffer shaped valid size =
        ap (λ (w : Written). read_answer format w.image) (write_valid format r buffer valid size)
        ∙ good_read (format.image r) (faithful.good_image r shaped valid)
        ∙ ap (λ (y : R). record { refusal = 0; contents = y }) (faithful.read_image_lem r shaped valid)

    written_read : (x buffer : Octets) → Below 256 x → (read_answer format x).refusal ≡ 0 → length buffer ≡ length x
        → write_answer format (read_answer format x).contents buffer ≡ record { refusal = 0; image = x }
    written_read x buffer b read size =
        write_valid format (read_answer format x).contents buffer (is_sound x read).1 (size ∙ (is_sound x read).0)
        ∙ ap (λ (y : Octets). record { refusal = 0; image = y })
        (ap (λ (r : Read R). format.image r.contents) (answer x read) ∙ faithful.write_image x (good x read) b)

    pub round_trips : RoundTrips format Shaped
    round_trips = record { reading_written = read_written; writing_read = written_read; sound = is_sound }

-- what the code read is sound
pub sound_read : {A R : Type 0} (format : Format R) (Shaped : R → Type 0) (trips : RoundTrips format Shaped) (view : A → R)
    (x : Octets) (r : Result A (Refused A)) → read_of view r ≡ read_answer format x → IfOk r (λ held. IsSound format x (view held))
sound_read format Shaped trips view x (Ok held) e =
    rw (← e) at (trips.sound x (ap (λ (a : Read _). a.refusal) (sym e)))
sound_read format Shaped trips view x (Err refused) e = tt
