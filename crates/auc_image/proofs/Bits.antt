-- SEQ_HE and the next index as bits: n bits before m bits are one number, made up as an SQN is, and it has them as quotient and remainder.
-- Assumes nothing.
use Prim.Native.Nat.{ℕ, ◌+◌, ◌*◌, ◌^◌, ◌<◌, ◌≤◌}
use mathlib.Core.List.{List, [], ◌∷◌, ◌++◌}
use mathlib.Core.Path.{◌≡◌, refl, ap, ap₂, ◌∙◌}
use native.Mathlib.Nat.{add-zero, mul_comm}
use native.Mathlib.Omega.{arith}
use lib.ListN.{length, length-append}
use lib.Pow.{shr_lt}
use Rattle.octets.specs.Octets.{Octets, Below, part, digits, spelt, number, encode, decode}
use Rattle.octets.proofs.Numbers.{length_digits, digits_below, digits_split, digits_number}
use Rattle.octets.proofs.Numbers.{spelt_split, number_digits, number_digits_fits, number_lt}
use Rattle.octets.proofs.Parts.{front, past, whole, length_part}
use Rattle.octets.proofs.Ranges.{below_append, below_part}
use Rattle.aka.specs.Layout.{sqn_size}
use Rattle.aka.specs.Sequence.{sqn_bits, FitsSqn, sqn_of, seq_of, ind_of}
use Rattle.aka.proofs.Sequence.{seq_sqn, ind_sqn, sqn_seq_ind}

spelt_append : (base x : ℕ) (l r : List ℕ) → spelt base x (l ++ r) ≡ spelt base (spelt base x l) r
unfolding spelt
spelt_append base x [] r = refl
spelt_append base x (d ∷ l) r = spelt_append base (x * base + d) l r

-- a number of n bits before one of m bits
module _ (n m : ℕ) where
  abbrev joined : (a b : ℕ) → List ℕ
  joined a b = digits 2 n a ++ digits 2 m b

  pub one_number : (a b : ℕ) → a < 2 ^ n → b < 2 ^ m → number 2 (joined a b) ≡ sqn_of m a b
  one_number a b h g =
      spelt_append 2 0 (digits 2 n a) (digits 2 m b)
      ∙ spelt_split 2 (number 2 (digits 2 n a)) (digits 2 m b)
      ∙ ap₂ (λ (x y : ℕ). x + y)
      (ap₂ (λ (x k : ℕ). x * 2 ^ k) (number_digits_fits 2 n a (omega arith) h) (length_digits 2 m b) ∙ mul_comm a (2 ^ m))
      (number_digits_fits 2 m b (omega arith) g)

-- 48 bits in all, in six octets x: read by bits, and as the code reads them
module _ (n m : ℕ) (filled : n + m ≡ sqn_bits) (x : Octets) where
  abbrev l : List ℕ
  l = digits 2 sqn_bits (decode x)

  abbrev first : ℕ
  first = number 2 (part 0 n l)

  abbrev second : ℕ
  second = number 2 (part n m l)

  part_fits : (start size : ℕ) → start + size ≤ sqn_bits → number 2 (part start size l) < 2 ^ size
  part_fits start size h =
      let long : length l ≡ sqn_bits = length_digits 2 sqn_bits (decode x) in
      let below = below_part 2 start size l (omega arith) (digits_below 2 sqn_bits (decode x) (omega arith)) in
      rw (length_part start size l (omega arith)) at (number_lt 2 (part start size l) below)

  pub first_fits : first < 2 ^ n
  first_fits = part_fits 0 n (omega arith)

  pub second_fits : second < 2 ^ m
  second_fits = part_fits n m (omega arith)

  abbrev high : List ℕ
  high = digits 2 n (seq_of m (decode x))

  abbrev low : List ℕ
  low = digits 2 m (decode x)

  split : l ≡ high ++ low
  split = rw filled at (digits_split 2 n m (decode x))

  pub second_number : second ≡ ind_of m (decode x)
  second_number =
      let behind = rw (add-zero n) at (past high low n 0 m (length_digits 2 n (seq_of m (decode x)))) in
      ap (number 2) (ap (part n m) split ∙ behind ∙ whole low m (length_digits 2 m (decode x)))
      ∙ number_digits 2 m (decode x) (omega arith)

  module _ (size : length x ≡ sqn_size) (b : Below 256 x) where
    pub first_number : first ≡ seq_of m (decode x)
    first_number =
        let small : FitsSqn (decode x) = rw size at (number_lt 256 x b) in
        ap (number 2) (ap (part 0 n) split ∙ front high low n (length_digits 2 n (seq_of m (decode x))))
        ∙ number_digits_fits 2 n (seq_of m (decode x)) (omega arith) (shr_lt n m (rw filled small))

    -- read, then written
    pub write_bits : encode sqn_size (number 2 (joined n m first second)) ≡ x
    write_bits =
        ap (encode sqn_size)
        (one_number n m first second first_fits second_fits
        ∙ ap₂ (sqn_of m) first_number second_number
        ∙ sqn_seq_ind m (decode x))
        ∙ rw size at (digits_number 256 x b)

  -- written, then read
  module _ (a b : ℕ) (h : a < 2 ^ n) (g : b < 2 ^ m) (is : x ≡ encode sqn_size (number 2 (joined n m a b))) where
    fits : FitsSqn (number 2 (joined n m a b))
    fits =
        let size : length (joined n m a b) ≡ sqn_bits =
        length-append (digits 2 n a) (digits 2 m b) ∙ ap₂ (λ (i j : ℕ). i + j) (length_digits 2 n a) (length_digits 2 m b) ∙ filled in
        let below = below_append 2 (digits 2 n a) (digits 2 m b) (digits_below 2 n a (omega arith)) (digits_below 2 m b (omega arith)) in
        rw size at (number_lt 2 (joined n m a b) below)

    value : decode x ≡ sqn_of m a b
    value = ap decode is ∙ number_digits_fits 256 sqn_size (number 2 (joined n m a b)) (omega arith) fits ∙ one_number n m a b h g

    pub read_first : first ≡ a
    read_first =
        first_number (ap length is ∙ length_digits 256 sqn_size _) (rw is (digits_below 256 sqn_size _ (omega arith)))
        ∙ ap (seq_of m) value
        ∙ seq_sqn m a b g

    pub read_second : second ≡ b
    read_second = second_number ∙ ap (ind_of m) value ∙ ind_sqn m a b g
