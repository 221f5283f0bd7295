-- Numbers of a few bits, put one behind the other by words of eight octets. Assumes nothing.
use Prim.Native.Nat.{ℕ, ◌+◌, ◌-◌, ◌*◌, ◌/◌, ◌%◌, ◌^◌, ◌≤◌, ◌<◌}
use mathlib.Core.List.{List, ◌++◌, append_assoc}
use mathlib.Core.Path.{◌≡◌, refl, sym, ap, ap₂, ◌∙◌}
use native.Mathlib.Nat.{add-zero, zero-mul, mul-zero, mul_assoc, mul-suc, mul-le-mul_left, mod-lt}
use native.Mathlib.Nat.{div-add-mod', mul-add-mod_self_right}
use native.Mathlib.Numerals.{add-one}
use native.Mathlib.Omega.{arith}
use lib.ListN.{length, get_or, take, drop}
use lib.Pow.{pow_pos, pow-add, high, low, mod-pow-add, shl-shr, shr-shr}
use lib.Seq.{take_at, drop_at, take-length, take-suc}
use Rattle.octets.specs.Octets.{Octets, Below, zeros, spelt, number, encode}
use Rattle.octets.proofs.Numbers.{length_digits, digits_split, digits_low, spelt_snoc}
use Rattle.packing.proofs.Repacked.{power, shifted, encode_zero}

-- ---- eight octets

-- what a word does not hold is not put
encode_low : (x : ℕ) → encode 8 (x % 2 ^ 64) ≡ encode 8 x
encode_low x = sym (digits_low 256 8 (x / 2 ^ 64) (x % 2 ^ 64) (omega arith)) ∙ ap (encode 8) (div-add-mod' x (2 ^ 64))

-- octets whose last e are zeros: those before the word, the word, and the zeros
module _ (s e y : ℕ) where
  word_in : encode (s + 8 + e) (y * 256 ^ e) ≡ encode s (y / 2 ^ 64) ++ encode 8 y ++ zeros e
  word_in = shifted (s + 8) e y ∙ ap (λ (l : Octets). l ++ zeros e) (digits_split 256 s 8 y)

  before_word : take s (encode (s + 8 + e) (y * 256 ^ e)) ≡ encode s (y / 2 ^ 64)
  before_word =
      ap (take s) (word_in ∙ append_assoc (encode s (y / 2 ^ 64)) (encode 8 y) (zeros e))
      ∙ take_at (encode s (y / 2 ^ 64)) (encode 8 y ++ zeros e) s (length_digits 256 s (y / 2 ^ 64))

  behind_word : drop (s + 8) (encode (s + 8 + e) (y * 256 ^ e)) ≡ zeros e
  behind_word = ap (drop (s + 8)) (shifted (s + 8) e y) ∙ drop_at (encode (s + 8) y) (zeros e) (s + 8) (length_digits 256 (s + 8) y)

-- another word over it, where the octets before it stay
word_over : (s e y z : ℕ) → y / 2 ^ 64 ≡ z / 2 ^ 64
    → let d = encode (s + 8 + e) (y * 256 ^ e) in
    take s d ++ encode 8 (z % 2 ^ 64) ++ drop (s + 8) d ≡ encode (s + 8 + e) (z * 256 ^ e)
word_over s e y z same =
    ap₂ (λ (l r : Octets). l ++ encode 8 (z % 2 ^ 64) ++ r) (before_word s e y ∙ ap (encode s) same) (behind_word s e y)
    ∙ ap (λ (l : Octets). encode s (z / 2 ^ 64) ++ l ++ zeros e) (encode_low z)
    ∙ sym (word_in s e z)

-- ---- the numbers so far as one number, and the lowest 64 bits of it

reorder : (a p r q : ℕ) → (a * p + r) * q ≡ a * q * p + r * q
reorder a p r q = omega arith

-- bits that a shift moves out of a word do not count
shift_low : (n q p : ℕ) → n % p * q % p ≡ n * q % p
shift_low n q p = sym (ap (λ (y : ℕ). y % p) sum ∙ mul-add-mod_self_right (n / p * q) p (n % p * q))
  where
    sum : n * q ≡ n / p * q * p + n % p * q
    sum = ap (λ (y : ℕ). y * q) (sym (div-add-mod' n p)) ∙ reorder (n / p) p (n % p) q

-- the j bits from b on, and b bits behind them
low_part : (n j b : ℕ) {d : ℕ} → 64 ≡ j + b → d < 2 ^ b → (n * 2 ^ b + d) % 2 ^ 64 ≡ n % 2 ^ j * 2 ^ b + d
low_part n j b {d} all h =
    ap (λ (k : ℕ). (n * 2 ^ b + d) % 2 ^ k) all ∙ mod-pow-add (n * 2 ^ b + d) j b ∙ rw (high n b h, low n b h)

-- k bits are shifted in, and out again
shl_out : (y k j : ℕ) → y * 2 ^ k / 2 ^ (k + j) ≡ y / 2 ^ j
shl_out y k j = sym (shr-shr (y * 2 ^ k) k j) ∙ ap (λ (z : ℕ). z / 2 ^ j) (shl-shr y k)

-- a shift by whole octets and by bits
weight : (y c e : ℕ) {t : ℕ} → t ≡ c + 8 * e → y * 2 ^ t ≡ y * 2 ^ c * 256 ^ e
weight y c e sum = rw (sum, pow-add 2 c (8 * e), power 8 e) (sym (mul_assoc y (2 ^ c) (2 ^ (8 * e))))

-- a number d of b bits behind n
module _ (n b d : ℕ) (small : d < 2 ^ b) where
  -- what is held with it
  held_next : b ≤ 64 → n % 2 ^ 64 * 2 ^ b % 2 ^ 64 + d ≡ (n * 2 ^ b + d) % 2 ^ 64
  held_next h = ap (λ (y : ℕ). y + d) (shift_low n (2 ^ b) (2 ^ 64) ∙ bare) ∙ sym (low_part n j b all small)
    where
      j : ℕ
      j = 64 - b

      all : 64 ≡ j + b
      all = omega arith

      bare : n * 2 ^ b % 2 ^ 64 ≡ n % 2 ^ j * 2 ^ b
      bare = ap (λ (y : ℕ). y % 2 ^ 64) (sym (add-zero (n * 2 ^ b))) ∙ low_part n j b all (pow_pos b) ∙ add-zero (n % 2 ^ j * 2 ^ b)

  -- what stands above the word is the same without it
  above_same : (k : ℕ) → b + k ≤ 64 → n * 2 ^ (b + k) / 2 ^ 64 ≡ (n * 2 ^ b + d) * 2 ^ k / 2 ^ 64
  above_same k h = without ∙ sym behind
    where
      j : ℕ
      j = 64 - (b + k)

      without : n * 2 ^ (b + k) / 2 ^ 64 ≡ n / 2 ^ j
      without =
          let all : 64 ≡ b + k + j = omega arith in
          ap (λ (c : ℕ). n * 2 ^ (b + k) / 2 ^ c) all ∙ shl_out n (b + k) j

      behind : (n * 2 ^ b + d) * 2 ^ k / 2 ^ 64 ≡ n / 2 ^ j
      behind =
          let all : 64 ≡ k + (b + j) = omega arith in
          ap (λ (c : ℕ). (n * 2 ^ b + d) * 2 ^ k / 2 ^ c) all ∙ shl_out (n * 2 ^ b + d) k (b + j)
          ∙ sym (shr-shr (n * 2 ^ b + d) b j) ∙ ap (λ (z : ℕ). z / 2 ^ j) (high n b small)

-- ---- the loop's state

abbrev number_of : ℕ → List ℕ → ℕ → ℕ
number_of b src i = number (2 ^ b) (take i src)

-- the first i numbers are put, and `held` is the lowest 64 bits of them
pub record Packed (b : ℕ) (src : List ℕ) (size : ℕ) (dst : Octets) (used held i : ℕ) : Type 0 where
  pub within : i ≤ length src
  pub bits : used ≡ b * i
  pub low : held ≡ number_of b src i % 2 ^ 64
  pub done : dst ≡ encode size (number_of b src i * 2 ^ (8 * size - used))

module _ {b : ℕ} {src : List ℕ} {size : ℕ} where
  pub packed_none : {dst : Octets} → dst ≡ zeros size → Packed b src size dst 0 0 0
  unfolding spelt
  packed_none clear = record {
    within = omega arith;
    bits = sym (mul-zero b);
    low = refl;
    done = clear ∙ sym (rw zero-mul (encode_zero size));
  }

  module _ {dst : Octets} {used held i : ℕ} (p : Packed b src size dst used held i) where
    pub packed_size : length dst ≡ size
    packed_size = ap length p.done ∙ length_digits 256 size (number_of b src i * 2 ^ (8 * size - used))

    -- how far the next number reaches
    pub next_end : i < length src → used + b ≤ b * length src
    next_end more = omega (arith, p.bits, mul-suc b i, mul-le-mul_left b more)

    module _ (below : Below (2 ^ b) src) (narrow : b ≤ 56) (more : i < length src) where
      abbrev n : ℕ
      n = number_of b src i

      abbrev d : ℕ
      d = get_or src i 0

      abbrev held' : ℕ
      held' = held * 2 ^ b % 2 ^ 64 + d

      next : number_of b src (i + 1) ≡ n * 2 ^ b + d
      next = rw (add-one i, take-suc src i 0 more) (spelt_snoc (2 ^ b) 0 (take i src) d)

      next_low : held' ≡ (n * 2 ^ b + d) % 2 ^ 64
      next_low = ap (λ (h : ℕ). h * 2 ^ b % 2 ^ 64 + d) p.low ∙ held_next n b d (below i more) (omega arith)

      -- no bit is carried out of the word
      pub held_fits : held' < 2 ^ 64
      held_fits = rw next_low (mod-lt (n * 2 ^ b + d) (pow_pos 64))

      -- where the word begins, and how many bits of it stand behind the number
      abbrev s : ℕ
      s = used / 8

      abbrev k : ℕ
      k = 64 - used % 8 - b

      pub packed_next : b * length src + 64 ≤ 8 * size → {dst' : Octets}
          → dst' ≡ take s dst ++ encode 8 (held' * 2 ^ k % 2 ^ 64) ++ drop (s + 8) dst
          → Packed b src size dst' (used + b) held' (i + 1)
      packed_next room put = record {
        within = omega arith;
        bits = rw (add-one i, mul-suc b i) (ap (λ (u : ℕ). u + b) p.bits);
        low = rw next next_low;
        done = put ∙ ap₂ (λ (l : Octets) (w : ℕ). take s l ++ encode 8 w ++ drop (s + 8) l) before word
            ∙ word_over s e (n * 2 ^ (b + k)) ((n * 2 ^ b + d) * 2 ^ k) (above_same n b d (below i more) k (omega arith))
            ∙ after;
      }
        where
          e : ℕ
          e = size - s - 8

          inside : used + b + 64 ≤ 8 * size
          inside = omega (arith, next_end more)

          whole : s + 8 + e ≡ size
          whole = omega (arith, inside)

          before : dst ≡ encode (s + 8 + e) (n * 2 ^ (b + k) * 256 ^ e)
          before = p.done ∙ ap₂ encode (sym whole) (weight n (b + k) e (omega (arith, inside)))

          word : held' * 2 ^ k % 2 ^ 64 ≡ (n * 2 ^ b + d) * 2 ^ k % 2 ^ 64
          word = ap (λ (h : ℕ). h * 2 ^ k % 2 ^ 64) next_low ∙ shift_low (n * 2 ^ b + d) (2 ^ k) (2 ^ 64)

          after : encode (s + 8 + e) ((n * 2 ^ b + d) * 2 ^ k * 256 ^ e)
              ≡ encode size (number_of b src (i + 1) * 2 ^ (8 * size - (used + b)))
          after =
              ap₂ encode whole (sym (weight (n * 2 ^ b + d) k e (omega (arith, inside))))
              ∙ ap (λ (m : ℕ). encode size (m * 2 ^ (8 * size - (used + b)))) (sym next)

    pub packed_all : length src ≤ i → dst ≡ encode size (number (2 ^ b) src * 2 ^ (8 * size - b * length src))
    packed_all end =
        let last : i ≡ length src = omega (arith, p.within) in
        p.done ∙ rw (p.bits, last, take-length src)
