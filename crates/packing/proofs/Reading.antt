-- A number of a few bits, read out of a word of eight octets, and a list of such numbers that is filled from the front. Assumes nothing.
use Prim.Native.Nat.{ℕ, suc, ◌+◌, ◌-◌, ◌*◌, ◌/◌, ◌%◌, ◌^◌, ◌≤◌, ◌<◌}
use mathlib.Core.List.{List, [], ◌∷◌, ◌++◌}
use mathlib.Core.Path.{◌≡◌, refl, sym, ap, ◌∙◌}
use native.Mathlib.Nat.{mul_assoc, mul-suc, mul-zero, mul-le-mul_left, sub_self, sub-zero, sub-le, div-one, pow-zero}
use native.Mathlib.Nat.{mul-add-div_right, mul-add-mod_self_right}
use native.Mathlib.Numerals.{add-one}
use native.Mathlib.Omega.{arith}
use lib.Arith.{digits_div}
use lib.ListN.{length, take, drop, set, length-set, length-drop, take-append-drop}
use lib.Pow.{pow_pos, pow-add, shr-shr}
use lib.Seq.{get_or-drop, take-add, take-length, take-suc-set}
use Rattle.octets.specs.Octets.{Octets, Below, part, digits, spelt, number, decode}
use Rattle.octets.proofs.Numbers.{spelt_split, number_lt, digits_low}
use Rattle.octets.proofs.Parts.{length_part}
use Rattle.packing.specs.Packing.{unpacked}
use Rattle.packing.proofs.Repacked.{power}

-- ---- the number of octets in two parts

spelt_append : (base x : ℕ) (l m : List ℕ) → spelt base x (l ++ m) ≡ spelt base (spelt base x l) m
unfolding spelt
spelt_append base x [] m = refl
spelt_append base x (d ∷ l) m = spelt_append base (x * base + d) l m

number_append : (base : ℕ) (l m : List ℕ) → number base (l ++ m) ≡ number base l * base ^ length m + number base m
number_append base l m = spelt_append base 0 l m ∙ spelt_split base (number base l) m

module _ (x : Octets) (n e : ℕ) (size : n + e ≡ length x) where
  -- the last e octets
  pub parts : decode x ≡ decode (take n x) * 256 ^ e + decode (drop n x)
  parts =
      ap decode (sym (take-append-drop n x)) ∙ number_append 256 (take n x) (drop n x)
      ∙ ap (λ (k : ℕ). decode (take n x) * 256 ^ k + decode (drop n x)) (length-drop n x ∙ omega arith)

  -- and what stands before them
  pub front : Below 256 x → decode (take n x) ≡ decode x / 2 ^ (8 * e)
  front below = rw (← power 8 e, parts) (sym (digits_div (decode (take n x)) small))
    where
      behind : length (drop n x) ≡ e
      behind = length-drop n x ∙ omega arith

      small : decode (drop n x) < 256 ^ e
      small = rw behind at (number_lt 256 (drop n x) (λ i h. rw (get_or-drop n x i 0) (below (n + i) (omega (arith, behind)))))

-- ---- the bits of one word

-- what stands above them does not count
low_field : (h w j b k : ℕ) → (h * 2 ^ (j + b + k) + w) / 2 ^ k % 2 ^ b ≡ w / 2 ^ k % 2 ^ b
low_field h w j b k =
    rw (apart, mul-add-div_right (pow_pos k) (h * 2 ^ j * 2 ^ b) w) (mul-add-mod_self_right (h * 2 ^ j) (2 ^ b) (w / 2 ^ k))
  where
    apart : h * 2 ^ (j + b + k) ≡ h * 2 ^ j * 2 ^ b * 2 ^ k
    apart = rw (pow-add 2 (j + b) k, pow-add 2 j b) (simp mul_assoc)

-- the word ends with the octet in which the bits end
pub field_in : (x : Octets) → Below 256 x → (start left bits : ℕ) → start + 8 + left / 8 ≡ length x → bits ≤ 56
    → decode (part start 8 x) / 2 ^ (left % 8) % 2 ^ bits ≡ decode x / 2 ^ left % 2 ^ bits
field_in x below start left bits size h = sym (rw upto (rw word (low_field _ _ spare bits k)))
  where
    k : ℕ
    k = left % 8

    spare : ℕ
    spare = 64 - bits - k

    upto : decode x / 2 ^ left ≡ decode (take (start + 8) x) / 2 ^ k
    upto =
        let split : left ≡ 8 * (left / 8) + k = omega arith in
        ap (λ (j : ℕ). decode x / 2 ^ j) split ∙ sym (shr-shr (decode x) (8 * (left / 8)) k)
        ∙ ap (λ (y : ℕ). y / 2 ^ k) (sym (front x (start + 8) (left / 8) size below))

    word : decode (take (start + 8) x) ≡ decode (take start x) * 2 ^ (spare + bits + k) + decode (part start 8 x)
    word =
        let all : spare + bits + k ≡ 64 = omega arith in
        rw (all, take-add start 8 x, number_append 256 (take start x) (part start 8 x), length_part start 8 x (omega arith))

-- ---- a list that is filled from the front

-- one less is left
one_less : (b n i : ℕ) → i < n → b * (n - i) ≡ b * (n - (i + 1)) + b
one_less b n i h =
    let next : n - i ≡ suc (n - (i + 1)) = omega arith in
    ap (λ (k : ℕ). b * k) next ∙ mul-suc b (n - (i + 1))

-- the first i of n numbers of b bits are those of m without its last `left` bits
pub record Unpacked (m b n : ℕ) (dst : List ℕ) (left i : ℕ) : Type 0 where
  pub size : length dst ≡ n
  pub within : i ≤ n
  pub rest : left ≡ b * (n - i)
  pub done : take i dst ≡ digits (2 ^ b) i (m / 2 ^ left)

module _ {m b n : ℕ} where
  pub unpacked_none : {dst : List ℕ} {left : ℕ} → length dst ≡ n → left ≡ b * n → Unpacked m b n dst left 0
  unfolding digits
  unpacked_none size all = record { size = size; within = omega arith; rest = rw sub-zero all; done = refl }

  module _ {dst : List ℕ} {left i : ℕ} (u : Unpacked m b n dst left i) where
    pub next_left : i < n → left ≡ b * (n - (i + 1)) + b
    next_left more = u.rest ∙ one_less b n i more

    pub most_left : left ≤ b * n
    most_left = rw u.rest (mul-le-mul_left b (sub-le n i))

    pub unpacked_next : i < n → Unpacked m b n (set dst i (m / 2 ^ (left - b) % 2 ^ b)) (left - b) (i + 1)
    unfolding digits
    unpacked_next more = record {
      size = simp length-set u.size;
      within = omega arith;
      rest = omega (arith, next_left more);
      done = rw (add-one i, take-suc-set dst i (m / 2 ^ (left - b) % 2 ^ b) (omega (arith, u.size)))
          (ap (λ (l : List ℕ). l ++ (m / 2 ^ (left - b) % 2 ^ b ∷ [])) (u.done ∙ ap (digits (2 ^ b) i) before));
    }
      where
        before : m / 2 ^ left ≡ m / 2 ^ (left - b) / 2 ^ b
        before =
            let sum : left ≡ left - b + b = omega (arith, next_left more) in
            ap (λ (k : ℕ). m / 2 ^ k) sum ∙ sym (shr-shr m (left - b) b)

    pub unpacked_all : n ≤ i → dst ≡ digits (2 ^ b) n m
    unpacked_all end =
        let last : i ≡ n = omega (arith, u.within) in
        let none : left ≡ 0 = u.rest ∙ rw (last, sub_self n, mul-zero b) in
        sym (take-length dst) ∙ ap (λ (k : ℕ). take k dst) (u.size ∙ sym last) ∙ u.done
        ∙ rw (none, last, pow-zero, div-one)

-- what stands in front does not count
pub unpacked_behind : (x : Octets) (at b n : ℕ) → at ≤ length x → 8 * (length x - at) ≡ b * n
    → unpacked b n x ≡ unpacked b n (drop at x)
unpacked_behind x at b n h same =
    let e = length x - at in
    let room : 256 ^ e ≡ (2 ^ b) ^ n = power 8 e ∙ ap (λ (k : ℕ). 2 ^ k) same ∙ sym (power b n) in
    rw (parts x at e (omega arith), room) (digits_low (2 ^ b) n (decode (take at x)) (decode (drop at x)) (pow_pos b))
