-- Round trips over the width: numbers of b bits in octets and back, and octets in numbers of b bits and back. Assumes nothing.
use Prim.Native.Nat.{ℕ, zero, suc, ◌+◌, ◌-◌, ◌*◌, ◌/◌, ◌^◌, ◌<◌}
use mathlib.Core.List.{List, ◌∷◌, ◌++◌}
use mathlib.Core.Path.{◌≡◌, refl, sym, ap, ap₂, ◌∙◌}
use native.Mathlib.Nat.{add-zero, mul-zero, mul-suc, pow-zero, pow-suc, zero-div, zero-mod, mul-div_cancel}
use native.Mathlib.Omega.{arith}
use lib.ListN.{length, take}
use lib.Pow.{pow_pos, pow-add}
use lib.Seq.{take_at}
use Rattle.octets.specs.Octets.{Octets, Below, zeros, digits, number, encode}
use Rattle.octets.proofs.Numbers.{length_digits, number_lt, number_digits_fits, digits_number, digits_cons, digits_split, digits_low}
use Rattle.packing.specs.Packing.{unpacked, packed}

-- n digits of a bits hold a * n bits
pub power : (a n : ℕ) → (2 ^ a) ^ n ≡ 2 ^ (a * n)
power a zero = rw (mul-zero a, pow-zero (2 ^ a), pow-zero 2)
power a (suc n) = rw (mul-suc, pow-suc, pow-add) (ap (λ (x : ℕ). x * 2 ^ a) (power a n))

-- digits of a bits, written in n digits of b bits and read again, for as many bits on both sides
back : (a b n : ℕ) (l : List ℕ) → Below (2 ^ a) l → a * length l ≡ b * n
    → digits (2 ^ a) (length l) (number (2 ^ b) (digits (2 ^ b) n (number (2 ^ a) l))) ≡ l
back a b n l small same =
    let room : (2 ^ a) ^ length l ≡ (2 ^ b) ^ n = power a (length l) ∙ ap (λ (k : ℕ). 2 ^ k) same ∙ sym (power b n) in
    let fits : number (2 ^ a) l < (2 ^ b) ^ n = rw room at (number_lt (2 ^ a) l small) in
    ap (digits (2 ^ a) (length l)) (number_digits_fits (2 ^ b) n (number (2 ^ a) l) (pow_pos b) fits)
    ∙ digits_number (2 ^ a) l small

pub unpack_pack : (b m : ℕ) (l : List ℕ) → Below (2 ^ b) l → b * length l ≡ 8 * m
    → unpacked b (length l) (encode m (number (2 ^ b) l)) ≡ l
unpack_pack b m l small same = back b 8 m l small same

pub pack_unpack : (b n : ℕ) (x : Octets) → Below 256 x → 8 * length x ≡ b * n
    → encode (length x) (number (2 ^ b) (unpacked b n x)) ≡ x
pack_unpack b n x small same = back 8 b n x small same

-- ---- a number in octets with zeros behind it

pub encode_zero : (n : ℕ) → encode n 0 ≡ zeros n
unfolding digits
encode_zero zero = refl
encode_zero (suc n) = digits_cons 256 n 0 ∙ ap₂ (λ (d : ℕ) (l : Octets). d ∷ l) (rw (zero-div, zero-mod)) (encode_zero n)

pub shifted : (m k v : ℕ) → encode (m + k) (v * 256 ^ k) ≡ encode m v ++ zeros k
shifted m k v = digits_split 256 m k (v * 256 ^ k) ∙ ap₂ (λ (l r : Octets). l ++ r) front behind
  where
    front : encode m (v * 256 ^ k / 256 ^ k) ≡ encode m v
    front = ap (encode m) (mul-div_cancel v (rw (power 8 k) (pow_pos (8 * k))))

    behind : encode k (v * 256 ^ k) ≡ zeros k
    behind = ap (encode k) (sym (add-zero (v * 256 ^ k))) ∙ digits_low 256 k v 0 (omega arith) ∙ encode_zero k

-- the first m octets are the number's own
pub front_shifted : (m k v : ℕ) → take m (encode (m + k) (v * 256 ^ k)) ≡ encode m v
front_shifted m k v = ap (take m) (shifted m k v) ∙ take_at (encode m v) (zeros k) m (length_digits 256 m v)

-- where numbers of b bits fill m octets, those are the first that `pack` leaves
pub front_packed : (b m k : ℕ) (l : List ℕ) → b * length l ≡ 8 * m → take m (packed b (m + k) l) ≡ encode m (number (2 ^ b) l)
front_packed b m k l same =
    let behind : 8 * (m + k) - b * length l ≡ 8 * k = omega arith in
    ap (λ (p : ℕ). take m (encode (m + k) (number (2 ^ b) l * p))) (ap (λ (t : ℕ). 2 ^ t) behind ∙ sym (power 8 k))
    ∙ front_shifted m k (number (2 ^ b) l)
