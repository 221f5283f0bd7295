-- Laws of numbers in digits, each over the base and the count of digits. Assumes nothing.
use Prim.Native.Nat.{ℕ, zero, suc, ◌+◌, ◌*◌, ◌/◌, ◌%◌, ◌^◌, ◌<◌}
use mathlib.Core.List.{List, [], ◌∷◌, ◌++◌, append_assoc, append-nil}
use mathlib.Core.Logic.{⊎_elim}
use mathlib.Core.Path.{◌≡◌, refl, sym, ap, ap₂, ◌∙◌}
use native.Mathlib.Nat.{add-mul, add_assoc, mul_assoc, zero-mul, zero-add, pow-zero, pow-suc, pow-succ', mod-one, mod-lt, mod-eq_of_lt}
use native.Mathlib.Nat.{div-one, div-div-eq-div-mul, eq-or-lt_of_le, mul-pos, add-zero, add-suc, mul-add-div_right}
use native.Mathlib.Nat.{mul-add-mod_self_right}
use native.Mathlib.Omega.{arith}
use lib.Arith.{digits_div, digits_mod, digits_lt, mod-mul}
use lib.Bits.{bit_xor, xor_shr, xor_mod}
use lib.ListN.{length, get_or, length-append, get_or-append}
use lib.Seq.{get_or_at}
use Rattle.octets.specs.Octets.{xor, Below, digits, spelt, number}
use Rattle.octets.proofs.XorLaws.{xor_append}

power_pos : (base n : ℕ) → 0 < base → 0 < base ^ n
power_pos base zero h = rw pow-zero (omega arith)
power_pos base (suc n) h = rw pow-suc (mul-pos (power_pos base n h) h)

pub length_digits : (base n x : ℕ) → length (digits base n x) ≡ n
unfolding digits
length_digits base zero x = refl
length_digits base (suc n) x = length-append (digits base n (x / base)) _ ∙ omega (arith, length_digits base n (x / base))

pub digits_below : (base n x : ℕ) → 0 < base → Below base (digits base n x)
unfolding digits
digits_below base zero x h i l = absurd (omega arith)
digits_below base (suc n) x h i l =
    ⊎_elim last (λ g. before g (digits_below base n (x / base) h i)) (eq-or-lt_of_le (omega (arith, length_digits base (suc n) x)))
  where
    front : length (digits base n (x / base)) ≡ n
    front = length_digits base n (x / base)

    last : i ≡ n → get_or (digits base n (x / base) ++ (x % base ∷ [])) i 0 < base
    last e = rw (get_or_at (digits base n (x / base)) (x % base) [] 0 i (front ∙ sym e)) (mod-lt x h)

    before : i < n → (i < length (digits base n (x / base)) → get_or (digits base n (x / base)) i 0 < base)
        → get_or (digits base n (x / base) ++ (x % base ∷ [])) i 0 < base
    before g small =
        let inside : i < length (digits base n (x / base)) = omega (arith, front) in
        rw (get_or-append (digits base n (x / base)) (x % base ∷ []) 0 i inside) (small inside)

-- one digit more in front
pub digits_cons : (base n x : ℕ) → digits base (suc n) x ≡ x / base ^ n % base ∷ digits base n x
unfolding digits
digits_cons base zero x = rw (pow-zero, div-one)
digits_cons base (suc n) x =
    ap (λ (l : List ℕ). l ++ (x % base ∷ [])) (digits_cons base n (x / base))
    ∙ ap (λ (y : ℕ). y % base ∷ (digits base n (x / base) ++ (x % base ∷ [])))
    (div-div-eq-div-mul x base (base ^ n) ∙ ap (λ (y : ℕ). x / y) (sym (pow-succ' base n)))

-- the first i and the last j of them
pub digits_split : (base i j x : ℕ) → digits base (i + j) x ≡ digits base i (x / base ^ j) ++ digits base j x
unfolding digits
digits_split base i zero x = rw (pow-zero, div-one, add-zero i) (sym (append-nil (digits base i x)))
digits_split base i (suc j) x =
    ap (λ (n : ℕ). digits base n x) (add-suc i j)
    ∙ ap (λ (l : List ℕ). l ++ (x % base ∷ [])) (digits_split base i j (x / base))
    ∙ append_assoc (digits base i (x / base / base ^ j)) (digits base j (x / base)) (x % base ∷ [])
    ∙ ap (λ (y : ℕ). digits base i y ++ (digits base j (x / base) ++ (x % base ∷ [])))
    (div-div-eq-div-mul x base (base ^ j) ∙ ap (λ (y : ℕ). x / y) (sym (pow-succ' base j)))

-- what stands above them does not count
pub digits_low : (base n h x : ℕ) → 0 < base → digits base n (h * base ^ n + x) ≡ digits base n x
unfolding digits
digits_low base zero h x p = refl
digits_low base (suc n) h x p =
    let shifted : h * base ^ suc n ≡ h * base ^ n * base = ap (λ (y : ℕ). h * y) (pow-suc base n) ∙ sym (mul_assoc h (base ^ n) base) in
    rw shifted
    (ap₂ (λ (l : List ℕ) (d : ℕ). l ++ (d ∷ []))
    (ap (digits base n) (mul-add-div_right p (h * base ^ n) x) ∙ digits_low base n h (x / base) p)
    (mul-add-mod_self_right (h * base ^ n) base x))

-- ---- reading

-- one digit more at the end
pub spelt_snoc : (base x : ℕ) (l : List ℕ) (d : ℕ) → spelt base x (l ++ (d ∷ [])) ≡ spelt base x l * base + d
unfolding spelt
spelt_snoc base x [] d = refl
spelt_snoc base x (c ∷ l) d = spelt_snoc base (x * base + c) l d

-- the digits behind x count as if they stood alone
pub spelt_split : (base x : ℕ) (l : List ℕ) → spelt base x l ≡ x * base ^ length l + number base l
unfolding spelt
spelt_split base x [] = rw pow-zero (omega arith)
spelt_split base x (d ∷ l) =
    let p = base ^ length l in
    spelt_split base (x * base + d) l
    ∙ ap (λ (y : ℕ). y + number base l) (add-mul (x * base) d p ∙ ap (λ (y : ℕ). y + d * p) (mul_assoc x base p))
    ∙ add_assoc (x * (base * p)) (d * p) (number base l)
    ∙ ap₂ (λ (y z : ℕ). x * y + z) (sym (pow-succ' base (length l)))
    (sym (rw (zero-mul base, zero-add d) (spelt_split base d l)))

tail_below : (base d : ℕ) (l : List ℕ) → Below base (d ∷ l) → Below base l
tail_below base d l b i h = b (suc i) (omega arith)

pub number_lt : (base : ℕ) (l : List ℕ) → Below base l → number base l < base ^ length l
unfolding spelt
number_lt base [] b = rw pow-zero (omega arith)
number_lt base (d ∷ l) b =
    rw (zero-mul base, zero-add d, spelt_split base d l, pow-succ' base (length l))
    (digits_lt (b 0 (omega arith)) (number_lt base l (tail_below base d l b)))

-- ---- reading back

-- what was written is read, less what its width does not hold
pub number_digits : (base n x : ℕ) → 0 < base → number base (digits base n x) ≡ x % base ^ n
unfolding digits spelt
number_digits base zero x h = rw (pow-zero, mod-one)
number_digits base (suc n) x h =
    spelt_snoc base 0 (digits base n (x / base)) (x % base)
    ∙ ap (λ (y : ℕ). y * base + x % base) (number_digits base n (x / base) h)
    ∙ rw pow-suc (sym (mod-mul x (power_pos base n h) h))

pub number_digits_fits : (base n x : ℕ) → 0 < base → x < base ^ n → number base (digits base n x) ≡ x
number_digits_fits base n x h g = number_digits base n x h ∙ mod-eq_of_lt g

-- what was read is written, whatever stands before it
pub digits_spelt : (base x : ℕ) (l : List ℕ) → Below base l → digits base (length l) (spelt base x l) ≡ l
unfolding digits spelt
digits_spelt base x [] b = refl
digits_spelt base x (d ∷ l) b =
    let small = number_lt base l (tail_below base d l b) in
    digits_cons base (length l) (spelt base (x * base + d) l)
    ∙ ap₂ (λ (c : ℕ) (m : List ℕ). c ∷ m)
    (rw (spelt_split base (x * base + d) l, digits_div (x * base + d) small) (digits_mod x (b 0 (omega arith))))
    (digits_spelt base (x * base + d) l (tail_below base d l b))

pub digits_number : (base : ℕ) (l : List ℕ) → Below base l → digits base (length l) (number base l) ≡ l
digits_number base l b = digits_spelt base 0 l b

-- ---- xor, digit by digit, for digits of k bits
pub digits_xor : (k n x y : ℕ) → digits (2 ^ k) n (bit_xor x y) ≡ xor (digits (2 ^ k) n x) (digits (2 ^ k) n y)
unfolding digits xor
digits_xor k zero x y = refl
digits_xor k (suc n) x y =
    ap₂ (λ (l : List ℕ) (d : ℕ). l ++ (d ∷ []))
    (ap (digits (2 ^ k) n) (xor_shr x y k) ∙ digits_xor k n (x / 2 ^ k) (y / 2 ^ k)) (xor_mod x y k)
    ∙ sym (xor_append (digits (2 ^ k) n (x / 2 ^ k)) (x % 2 ^ k ∷ []) (digits (2 ^ k) n (y / 2 ^ k)) (y % 2 ^ k ∷ [])
    (length_digits (2 ^ k) n (x / 2 ^ k) ∙ sym (length_digits (2 ^ k) n (y / 2 ^ k))))
