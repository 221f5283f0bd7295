-- A packed image of a record: what writing and reading it answer, with document 01's refusal number, 0 for none. USIM and AuC have one
-- each, of every edition, and this is said once for all. Document 02, #104. Assumes nothing: these are definitions.
use Rattle.std.specs.Prelude.{ℕ, Bool, true, not, cond, ◌≡◌, eqb, length, Result, Ok, Err}
use Rattle.octets.specs.Octets.{Octets, Below}
use Rattle.aka.specs.Editions.{is_edition}
use Rattle.aka.specs.Refusals.{number_of}
use Rattle.images.specs.Head.{edition_in}
use Rattle.images.specs.declared.Refused.{Refused}

-- how records of the type R are packed
pub record Format (R : Type 0) : Type 0 where
  pub edition : R → ℕ  -- the edition of a record
  pub valid : R → Bool  -- refusal 1 does not apply to the record
  pub size : (edition : ℕ) → ℕ  -- the octets of an image of that edition
  pub image : R → Octets  -- the image of a record
  pub admitted : Octets → Bool  -- refusal 1 does not apply to an image of a known edition and of that edition's length
  pub record_in : Octets → R  -- the record in an image
  pub zero : R  -- a record of zeros

-- the answer of writing
pub record Written : Type 0 where
  pub refusal : ℕ
  pub image : Octets  -- what the buffer lent for the image holds at the end

-- the answer of reading
pub record Read (R : Type 0) : Type 0 where
  pub refusal : ℕ
  pub contents : R  -- the record

module _ {R : Type 0} (format : Format R) where
  -- a refusal leaves the buffer as it was
  unfoldable pub write_answer : R → (buffer : Octets) → Written
  write_answer r buffer =
      cond (not (format.valid r)) (record { refusal = 1; image = buffer })
      (cond (not (eqb (length buffer) (format.size (format.edition r)))) (record { refusal = 3; image = buffer })
      (record { refusal = 0; image = format.image r }))

  -- a refused reading answers a record of zeros
  abbrev pub refused_read : (number : ℕ) → Read R
  refused_read number = record { refusal = number; contents = format.zero }

  -- '3 for an empty image, then 1 for an unknown edition, then 3 for another length than that edition's'; then 1 for the rest
  unfoldable pub read_answer : (x : Octets) → Read R
  read_answer x =
      cond (eqb (length x) 0) (refused_read 3)
      (cond (not (is_edition (edition_in x))) (refused_read 1)
      (cond (not (eqb (length x) (format.size (edition_in x)))) (refused_read 3)
      (cond (not (format.admitted x)) (refused_read 1)
      (record { refusal = 0; contents = format.record_in x }))))

  -- an image that was read has the length of its record's edition, and the record is valid
  abbrev pub IsSound : (x : Octets) (contents : R) → Type 0
  IsSound x contents = (length x ≡ format.size (format.edition contents)) × (format.valid contents ≡ true)

  -- 'Reading what was written gives the record, and writing what was read gives the bytes.' Of records whose parts have their lengths.
  pub record RoundTrips (Shaped : R → Type 0) : Type 0 where
    pub reading_written : (r : R) (buffer : Octets) → Shaped r → format.valid r ≡ true → length buffer ≡ format.size (format.edition r)
        → read_answer (write_answer r buffer).image ≡ record { refusal = 0; contents = r }
    pub writing_read : (x buffer : Octets) → Below 256 x → (read_answer x).refusal ≡ 0 → length buffer ≡ length x
        → write_answer (read_answer x).contents buffer ≡ record { refusal = 0; image = x }
    pub sound : (x : Octets) → (read_answer x).refusal ≡ 0 → IsSound x (read_answer x).contents

-- as the code answers
abbrev pub written_of : (refusal : ℕ) (buffer : Octets) → Written
written_of refusal buffer = record { refusal = refusal; image = buffer }

abbrev pub read_of : {A R : Type 0} → (view : A → R) → Result A (Refused A) → Read R
read_of view (Ok contents) = record { refusal = 0; contents = view contents }
read_of view (Err r) = record { refusal = number_of r.refusal; contents = view r.contents }
