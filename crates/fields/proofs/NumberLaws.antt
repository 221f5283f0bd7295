-- Laws of decimal numbers, digit by digit. Assumes nothing.
use Rattle.std.proofs.Common.{ℕ, List, [], ◌∷◌, ◌≡◌, ◌&&◌, ◌≤◌, ◌<◌, ◌+◌, ◌-◌, ◌*◌, ◌^◌, true, false, cond, ◌∙◌}
use Rattle.std.proofs.Common.{length, get_or, drop, map, arith, Option, Some, None}
use Rattle.std.specs.Char.{is_ascii_digit}
use mathlib.Core.Bool.{and-false}
use borrow.Author.Tests.{lt-ltb, le-ltb, le-leb, lt-leb}
use lib.Dec.{ltb}
use lib.ListN.{drop_of_length-le}
use Rattle.octets.specs.Octets.{spelt}
use Rattle.octets.proofs.Parts.{drop_next}
use Rattle.fields.specs.Fields.{is_decimal_digit, decimal_digit, all_decimal, decimal, most_digits, is_decimal, number_in}

-- the number that the rest of a text makes behind a number
unfoldable pub number_behind : ℕ → List ℕ → Option ℕ
number_behind value t =
    let n : ℕ = spelt 10 value (map decimal_digit t) in
    cond (all_decimal t && ltb n (2 ^ 64)) (Some n) None

grows : (x : ℕ) (l : List ℕ) → x ≤ spelt 10 x l
unfolding spelt
grows x [] = omega arith
grows x (d ∷ l) = omega (arith, grows (x * 10 + d) l)

pub empty : (t : List ℕ) → length t ≡ 0 → number_in t ≡ None
unfolding number_in is_decimal
empty t e = rw (le-ltb 0 (length t) (omega arith))

pub long : (t : List ℕ) → most_digits < length t → number_in t ≡ None
unfolding number_in is_decimal
long t h = rw (lt-leb (length t) most_digits h, and-false (ltb 0 (length t)))

pub starts : (t : List ℕ) → 0 < length t → length t ≤ most_digits → number_in t ≡ number_behind 0 t
unfolding number_in is_decimal number_behind decimal
starts t h g = rw (lt-ltb 0 (length t) h, le-leb (length t) most_digits g)

-- a number for which there is no room
large : (value : ℕ) (t : List ℕ) → 2 ^ 64 ≤ value → number_behind value t ≡ None
unfolding number_behind
large value t h =
    let g : 2 ^ 64 ≤ spelt 10 value (map decimal_digit t) = omega (arith, grows value (map decimal_digit t)) in
    rw (le-ltb (spelt 10 value (map decimal_digit t)) (2 ^ 64) g, and-false (all_decimal t))

module _ (t : List ℕ) (i value : ℕ) (so_far : number_in t ≡ number_behind value (drop i t)) where
  -- no digit is left
  pub over : length t ≤ i → value < 2 ^ 64 → number_in t ≡ Some value
  unfolding number_behind all_decimal spelt
  over h g = so_far ∙ rw (drop_of_length-le t {i = i} h, lt-ltb value (2 ^ 64) g)

  -- one character more
  pub no_digit : i < length t → is_ascii_digit (get_or t i 0) ≡ false → number_in t ≡ None
  unfolding number_behind all_decimal is_decimal_digit
  no_digit h e = so_far ∙ rw (drop_next t i h, e)

  pub digit : i < length t → is_ascii_digit (get_or t i 0) ≡ true
      → number_in t ≡ number_behind (value * 10 + (get_or t i 0 - 48)) (drop (i + 1) t)
  unfolding number_behind all_decimal spelt is_decimal_digit
  digit h e = so_far ∙ rw (drop_next t i h, e)

  -- no room for it
  pub digit_over : i < length t → is_ascii_digit (get_or t i 0) ≡ true → 2 ^ 64 ≤ value * 10 + (get_or t i 0 - 48) → number_in t ≡ None
  digit_over h e g = digit h e ∙ large (value * 10 + (get_or t i 0 - 48)) (drop (i + 1) t) g

pub ruleset numbers = (
  empty,
  long,
  starts,
  over,
  no_digit,
  digit,
  digit_over,
)
