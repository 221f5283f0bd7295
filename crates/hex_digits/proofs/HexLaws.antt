-- The laws of hex text: each of `hex` and `unhex` undoes the other, and what stands at a place. Assumes nothing.
use Prim.Native.Nat.{ℕ, zero, suc, ◌+◌, ◌-◌, ◌*◌, ◌/◌, ◌%◌, ◌<◌, ◌≤◌}
use mathlib.Core.Bool.{Bool, true, false, ◌&&◌, ◌||◌, and-eq-true_iff, and-false}
use mathlib.Core.List.{List, [], ◌∷◌}
use mathlib.Core.Logic.{◌⊎◌, inl, inr, ⊎_elim, ⊎_map}
use mathlib.Core.Path.{◌≡◌, refl, sym, ap, ap₂}
use native.Mathlib.Nat.{div-add-mod'}
use native.Mathlib.Omega.{arith}
use borrow.Author.Tests.{lt-ltb, le-ltb, le-leb, lt-leb, leb-true, eq-eqb, eqb-true}
use lib.Arith.{digits_div, digits_mod}
use Rattle.std.specs.List.{AllWithin, HoldsAt}
use Rattle.std.specs.Bool.{MatchBool}
use lib.Dec.{leb, eqb}
use lib.ListN.{length, get_or}
use Rattle.hex_digits.specs.Hex.{glyph, hex, is_hex_digit, all_hex_digits, is_hex, value, unhex}
use Rattle.octets.proofs.Walks.{order}

or_true : (a b : Bool) → (a || b) ≡ true → (a ≡ true) ⊎ (b ≡ true)
or_true true b e = inl refl
or_true false b e = inr e

-- ---- one character

-- the two ranges of a digit's character
pub digit_range : (c : ℕ) → is_hex_digit c ≡ true → ((48 ≤ c) × (c ≤ 57)) ⊎ ((97 ≤ c) × (c ≤ 102))
unfolding is_hex_digit
digit_range c e = ⊎_map (within 48 57) (within 97 102) (or_true (leb 48 c && leb c 57) (leb 97 c && leb c 102) e)
  where
    within : (a b : ℕ) → (leb a c && leb c b) ≡ true → (a ≤ c) × (c ≤ b)
    within a b h = let p = (and-eq-true_iff (leb a c) (leb c b)).0 h in (leb-true a c p.0, leb-true c b p.1)

pub value_glyph : (d : ℕ) → d < 16 → value (glyph d) ≡ d
unfolding value glyph
value_glyph d h =
    ⊎_elim (λ l. simp (lt-ltb d 10 l, le-leb (48 + d) 57 (omega arith)) (omega arith))
    (λ l. simp (le-ltb d 10 l, lt-leb (97 + (d - 10)) 57 (omega arith)) (omega arith)) (order d 10)

pub digit_glyph : (d : ℕ) → d < 16 → is_hex_digit (glyph d) ≡ true
unfolding is_hex_digit glyph
digit_glyph d h =
    ⊎_elim (λ l. simp (lt-ltb d 10 l, le-leb 48 (48 + d) (omega arith), le-leb (48 + d) 57 (omega arith)))
    (λ l.
    let c = 97 + (d - 10) in
    simp (le-ltb d 10 l, le-leb 48 c (omega arith), lt-leb c 57 (omega arith), le-leb 97 c (omega arith), le-leb c 102 (omega arith)))
    (order d 10)

pub glyph_value : (c : ℕ) → is_hex_digit c ≡ true → glyph (value c) ≡ c
unfolding value glyph
glyph_value c e =
    ⊎_elim (λ h. simp (le-leb c 57 h.1, lt-ltb (c - 48) 10 (omega arith)) (omega arith))
    (λ h. simp (lt-leb c 57 (omega arith), le-ltb (c - 97 + 10) 10 (omega arith)) (omega arith)) (digit_range c e)

pub value_lt : (c : ℕ) → is_hex_digit c ≡ true → value c < 16
unfolding value
value_lt c e =
    ⊎_elim (λ h. simp (le-leb c 57 h.1) (omega arith)) (λ h. simp (lt-leb c 57 (omega arith)) (omega arith)) (digit_range c e)

-- ---- lengths

pub length_hex : (l : List ℕ) → length (hex l) ≡ 2 * length l
unfolding hex
length_hex [] = refl
length_hex (b ∷ l) = omega (arith, length_hex l)

pub length_unhex : (n : ℕ) (t : List ℕ) → length t ≡ 2 * n → length (unhex t) ≡ n
unfolding unhex
length_unhex n [] e = omega arith
length_unhex n (a ∷ []) e = absurd (omega arith)
length_unhex zero (a ∷ b ∷ t) e = absurd (omega arith)
length_unhex (suc n) (a ∷ b ∷ t) e = ap suc (length_unhex n t (omega arith))

-- ---- what stands at a place

twice : (i : ℕ) → 2 * suc i ≡ suc (suc (2 * i))
twice i = omega arith

twice_one : (i : ℕ) → 2 * suc i + 1 ≡ suc (suc (2 * i + 1))
twice_one i = omega arith

pub hex_high : (l : List ℕ) (i : ℕ) → i < length l → get_or (hex l) (2 * i) 0 ≡ glyph (get_or l i 0 / 16)
unfolding hex
hex_high [] i h = absurd (omega arith)
hex_high (b ∷ l) zero h = refl
hex_high (b ∷ l) (suc i) h = rw (twice i) (hex_high l i (omega arith))

pub hex_low : (l : List ℕ) (i : ℕ) → i < length l → get_or (hex l) (2 * i + 1) 0 ≡ glyph (get_or l i 0 % 16)
unfolding hex
hex_low [] i h = absurd (omega arith)
hex_low (b ∷ l) zero h = refl
hex_low (b ∷ l) (suc i) h = rw (twice_one i) (hex_low l i (omega arith))

pub unhex_at : (t : List ℕ) (i : ℕ) → 2 * i + 1 < length t
    → get_or (unhex t) i 0 ≡ value (get_or t (2 * i) 0) * 16 + value (get_or t (2 * i + 1) 0)
unfolding unhex
unhex_at [] i h = absurd (omega arith)
unhex_at (a ∷ []) i h = absurd (omega arith)
unhex_at (a ∷ b ∷ t) zero h = refl
unhex_at (a ∷ b ∷ t) (suc i) h = rw (twice_one i, twice i) (unhex_at t i (omega arith))

-- ---- all the characters of a text

and_parts : (c : ℕ) (t : List ℕ) → all_hex_digits (c ∷ t) ≡ true → (is_hex_digit c ≡ true) × (all_hex_digits t ≡ true)
unfolding all_hex_digits
and_parts c t e = (and-eq-true_iff (is_hex_digit c) (all_hex_digits t)).0 e

pub digit_at : (t : List ℕ) (i : ℕ) → all_hex_digits t ≡ true → i < length t → is_hex_digit (get_or t i 0) ≡ true
digit_at [] i e h = absurd (omega arith)
digit_at (c ∷ t) zero e h = (and_parts c t e).0
digit_at (c ∷ t) (suc i) e h = digit_at t i (and_parts c t e).1 (omega arith)

-- ---- there and back, for octets and for the text of some

pub hex_digits : (l : List ℕ) → ((i : ℕ) → get_or l i 0 < 256) → all_hex_digits (hex l) ≡ true
unfolding hex all_hex_digits
hex_digits [] h = refl
hex_digits (b ∷ l) h =
    let b_fits : b < 256 = h 0 in
    rw (digit_glyph (b / 16) (omega arith), digit_glyph (b % 16) (omega arith)) (hex_digits l (λ i. h (suc i)))

pub hex-is_hex : (l : List ℕ) → ((i : ℕ) → get_or l i 0 < 256) → is_hex (length l) (hex l) ≡ true
unfolding is_hex
hex-is_hex l h = rw (eq-eqb _ _ (length_hex l)) (hex_digits l h)

pub unhex_hex : (l : List ℕ) → ((i : ℕ) → get_or l i 0 < 256) → unhex (hex l) ≡ l
unfolding hex unhex
unhex_hex [] h = refl
unhex_hex (b ∷ l) h =
    let b_fits : b < 256 = h 0 in
    ap₂ (λ (x : ℕ) (r : List ℕ). x ∷ r) (rw (value_glyph (b / 16) (omega arith), value_glyph (b % 16) (omega arith)) (div-add-mod' b 16))
    (unhex_hex l (λ i. h (suc i)))

back : (n : ℕ) (t : List ℕ) → length t ≡ 2 * n → all_hex_digits t ≡ true → hex (unhex t) ≡ t
unfolding hex unhex
back n [] e d = refl
back n (a ∷ []) e d = absurd (omega arith)
back zero (a ∷ b ∷ t) e d = absurd (omega arith)
back (suc n) (a ∷ b ∷ t) e d =
    let p = and_parts a (b ∷ t) d in
    let q = and_parts b t p.1 in
    rw (digits_div (value a) (value_lt b q.0), digits_mod (value a) (value_lt b q.0), glyph_value a p.0, glyph_value b q.0)
    (ap (λ (r : List ℕ). a ∷ b ∷ r) (back n t (omega arith) q.1))

pub hex_unhex : (n : ℕ) (t : List ℕ) → is_hex n t ≡ true → hex (unhex t) ≡ t
unfolding is_hex
hex_unhex n t e = let p = (and-eq-true_iff (eqb (length t) (2 * n)) (all_hex_digits t)).0 e in back n t (eqb-true _ _ p.0) p.1

-- the test of every character, as the code has it
all_true : (t : List ℕ) → ((k : ℕ) → k < length t → is_hex_digit (get_or t k 0) ≡ true) → true ≡ all_hex_digits t
unfolding all_hex_digits
all_true [] h = refl
all_true (c ∷ t) h = rw (h 0 (omega arith)) (all_true t (λ k g. h (suc k) (omega arith)))

one_false : (t : List ℕ) (k : ℕ) → k < length t → is_hex_digit (get_or t k 0) ≡ false → false ≡ all_hex_digits t
unfolding all_hex_digits
one_false [] k g e = absurd (omega arith)
one_false (c ∷ t) zero g e = rw e refl
one_false (c ∷ t) (suc k) g e = rw (← one_false t k (omega arith) e) (sym (and-false (is_hex_digit c)))

pub decided : (t : List ℕ) (b : Bool)
    → MatchBool b (AllWithin (λ c. is_hex_digit c ≡ true) t 0 (length t))
    ((k : ℕ) × (k < length t) × HoldsAt (λ c. is_hex_digit c ≡ false) t k)
    → b ≡ all_hex_digits t
decided t true h = all_true t (λ k g. h k 0 (omega arith) g)
decided t false h = one_false t h.0 h.1 (h.2 0)
