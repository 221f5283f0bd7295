-- Laws of decimal digits and of hex fields. Assumes nothing.
use Rattle.std.specs.List.{starts_with}
use Rattle.std.proofs.lemmas.Bool.Decides.{nat_tests}
use Rattle.std.proofs.Common.{◌==◌, get_or, ◌≢◌, refl, arith}
use Prim.Native.Nat.{ℕ, zero, suc, ◌≤◌, ◌<◌}
use mathlib.Core.Bool.{Bool, ◌&&◌, true, false, and-false}
use mathlib.Core.List.{List, [], ◌∷◌}
use mathlib.Core.Path.{◌≡◌, sym, ap₂, ◌∙◌}
use borrow.Author.Tests.{eq-eqb, ne_eqb, le-leb, lt-leb}
use lib.Dec.{eqb, leb}
use lib.ListN.{length}
use Rattle.octets.specs.Octets.{Octets}
use Rattle.fields.specs.Fields.{space, field, begins, is_decimal_digit, is_hex_field, octets_in, read_field_into}

pub low_digit : (c : ℕ) → c < 48 → is_decimal_digit c ≡ false
unfolding is_decimal_digit
low_digit c h = rw (lt-leb 48 c h)

pub high_digit : (c : ℕ) → 57 < c → is_decimal_digit c ≡ false
unfolding is_decimal_digit
high_digit c h = rw (lt-leb c 57 h) (and-false (leb 48 c))

pub is_digit : (c : ℕ) → 48 ≤ c → c ≤ 57 → is_decimal_digit c ≡ true
unfolding is_decimal_digit
is_digit c h g = rw (le-leb 48 c h, le-leb c 57 g)

-- what `hex_field` answers says whether the field is there, and what it read
module _ (out : Octets) (at : ℕ) (line : List ℕ) {ok : Bool} (said : ok ≡ is_hex_field (length out) at line) where
  pub field_there : ok ≡ true → is_hex_field (length out) at line ≡ true
  field_there e = sym said ∙ e

  pub field_octets : {after : Octets} → after ≡ read_field_into out at line → ok ≡ true → after ≡ octets_in (length out) at line
  unfolding read_field_into
  field_octets is e = is ∙ rw (field_there e)

-- how many bytes come before the first space
pub first_space : (t : List ℕ) (n : ℕ) → n ≤ length t → ((k : ℕ) → k < n → get_or t k 0 ≢ space)
    → (n < length t → get_or t n 0 ≡ space) → n ≡ length (field t)
unfolding field
first_space [] n h before found = omega arith
first_space (c ∷ t) zero h before found = rw (eq-eqb c space (found (omega arith))) refl
first_space (c ∷ t) (suc n) h before found =
    rw (ne_eqb c space (before 0 (omega arith)))
    (omega (arith, first_space t n (omega arith) (λ k g. before (suc k) (omega arith)) (λ g. found (omega arith))))

-- the library's test of a word at the front is ours
same : (a b : ℕ) → (a == b) ≡ eqb b a
same a b = grind (arith, nat_tests)

-- the library's test of a word at the front is ours
pub begins_is : (word line : List ℕ) → starts_with (λ a b. a == b) line word ≡ begins word line
unfolding begins
begins_is [] line = refl
begins_is (c ∷ word) [] = refl
begins_is (c ∷ word) (d ∷ line) = ap₂ (λ (x y : Bool). x && y) (same c d) (begins_is word line)
