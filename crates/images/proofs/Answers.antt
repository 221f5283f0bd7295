-- Writing and reading an image, case by case: one law for each way through the code. Assumes nothing.
use mathlib.Core.Bool.{true, false}
use mathlib.Core.Path.{◌≡◌}
use borrow.Author.Tests.{eq-eqb, ne_eqb}
use lib.ListN.{length}
use Rattle.octets.specs.Octets.{Octets}
use Rattle.aka.specs.Editions.{is_edition}
use Rattle.images.specs.Head.{edition_in}
use Rattle.images.specs.Images.{Format, write_answer, read_answer, refused_read}

module _ {R : Type 0} (format : Format R) where
  module _ (r : R) (buffer : Octets) where
    pub write_invalid : format.valid r ≡ false → write_answer format r buffer ≡ record { refusal = 1; image = buffer }
    unfolding write_answer
    write_invalid bad = rw bad

    pub write_length : format.valid r ≡ true → (length buffer ≡ format.size (format.edition r) → ⊥)
        → write_answer format r buffer ≡ record { refusal = 3; image = buffer }
    unfolding write_answer
    write_length valid other = rw (valid, ne_eqb (length buffer) (format.size (format.edition r)) other)

    pub write_valid : format.valid r ≡ true → length buffer ≡ format.size (format.edition r)
        → write_answer format r buffer ≡ record { refusal = 0; image = format.image r }
    unfolding write_answer
    write_valid valid size = rw (valid, eq-eqb (length buffer) (format.size (format.edition r)) size)

  module _ (x : Octets) where
    pub read_empty : length x ≡ 0 → read_answer format x ≡ refused_read format 3
    unfolding read_answer
    read_empty none = rw (eq-eqb (length x) 0 none)

    module _ (some : length x ≡ 0 → ⊥) where
      pub read_edition : is_edition (edition_in x) ≡ false → read_answer format x ≡ refused_read format 1
      unfolding read_answer
      read_edition unknown = rw (ne_eqb (length x) 0 some, unknown)

      module _ (known : is_edition (edition_in x) ≡ true) where
        pub read_length : (length x ≡ format.size (edition_in x) → ⊥) → read_answer format x ≡ refused_read format 3
        unfolding read_answer
        read_length other = rw (ne_eqb (length x) 0 some, known, ne_eqb (length x) (format.size (edition_in x)) other)

        module _ (size : length x ≡ format.size (edition_in x)) where
          pub read_unknown : format.admitted x ≡ false → read_answer format x ≡ refused_read format 1
          unfolding read_answer
          read_unknown unknown = rw (ne_eqb (length x) 0 some, known, eq-eqb (length x) (format.size (edition_in x)) size, unknown)

          pub read_known : format.admitted x ≡ true → read_answer format x ≡ record { refusal = 0; contents = format.record_in x }
          unfolding read_answer
          read_known admitted = rw (ne_eqb (length x) 0 some, known, eq-eqb (length x) (format.size (edition_in x)) size, admitted)
