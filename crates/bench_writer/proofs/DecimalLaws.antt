-- Decimal digits: the fewest that hold a number are its text without leading zeros. Assumes nothing.
use Prim.Native.Nat.{ℕ, zero, suc, ◌+◌, ◌-◌, ◌*◌, ◌/◌, ◌%◌, ◌^◌, ◌≤◌, ◌<◌}
use mathlib.Core.Bool.{Bool, true, false}
use mathlib.Core.List.{List, [], ◌∷◌, ◌++◌}
use mathlib.Core.Path.{◌≡◌, refl, ap, ◌∙◌}
use native.Mathlib.Nat.{pow-zero, pow-suc, pow-le-pow_right, mod-eq_of_lt}
use native.Mathlib.Omega.{arith}
use borrow.Author.Tests.{lt-ltb, le-ltb, leb-true, leb-false, eq-eqb}
use lib.Dec.{leb}
use lib.ListN.{length}
use Rattle.octets.specs.Octets.{encode}
use Rattle.octets.proofs.Numbers.{length_digits}
use Rattle.hex_digits.specs.Hex.{hex, has_room, written_into}
use Rattle.io.specs.Digits.{last_digits as digits, hex_digit_ascii, IsDigitCount}
use Rattle.fields.specs.Fields.{most_digits}
use Rattle.aka.specs.Layout.{sqn_size}
use Rattle.bench_writer.specs.Replies.{decimal_in, decimal_text, sqn_text}

glyph_is : (d : ℕ) → d < 10 → hex_digit_ascii d ≡ 48 + d
glyph_is d h = rw (lt-ltb d 10 h)

power_pos : (j : ℕ) → 0 < 10 ^ j
power_pos zero = rw pow-zero (omega arith)
power_pos (suc j) = rw pow-suc (omega (arith, power_pos j))

spelled : (k room n : ℕ) → n < 10 ^ suc k → (0 < k → 10 ^ k ≤ n) → k < room → digits 10 (suc k) n ≡ decimal_in room n
unfolding decimal_in
spelled k zero n h g r = absurd (omega arith)
spelled zero (suc room) n h g r =
    let small : n < 10 = h in
    rw (mod-eq_of_lt small, lt-ltb n 10 small)
spelled (suc k) (suc room) n h g r =
    let low : 10 ^ k * 10 ≤ n = rw (pow-suc 10 k) at (g (omega arith)) in
    let high : n < 10 ^ suc k * 10 = rw (pow-suc 10 (suc k)) at h in
    let large : 10 ≤ n = omega (arith, power_pos k) in
    rw (le-ltb n 10 large, glyph_is (n % 10) (omega arith))
    (ap (λ (l : List ℕ). l ++ ((48 + n % 10) ∷ [])) (spelled k room (n / 10) (omega arith) (λ p. omega arith) (omega arith)))

suc_sub_one : (k : ℕ) → suc k - 1 ≡ k
suc_sub_one k = omega arith

-- what `io::decimal` writes
pub fewest : (k n : ℕ) → IsDigitCount 10 1 n k → k ≤ most_digits → digits 10 k n ≡ decimal_text n
fewest zero n f h = absurd (omega (arith, f.0))
fewest (suc k) n f h = spelled k most_digits n f.1 (λ p. rw (suc_sub_one k) at (f.2 (omega arith))) (omega arith)

-- a number of 64 bits has at most 20
pub few_digits : (k n : ℕ) → IsDigitCount 10 1 n k → n < 2 ^ 64 → k ≤ most_digits
few_digits k n f h = go (leb k most_digits) refl
  where
    go : (b : Bool) → leb k most_digits ≡ b → k ≤ most_digits
    go true e = leb-true k most_digits e
    go false e =
        let more : most_digits < k = leb-false k most_digits e in
        let large : 10 ^ most_digits ≤ 10 ^ (k - 1) = pow-le-pow_right {n = 10} (omega arith) {i = most_digits} {j = k - 1} (omega arith) in
        let fits : 10 ^ (k - 1) ≤ n = f.2 (omega arith) in
        absurd (omega arith)

-- ---- an SQN

pub sqn_digits : (sqn : ℕ) (digits : List ℕ) {octets after : List ℕ} → octets ≡ encode sqn_size sqn → length digits ≡ 2 * sqn_size
    → after ≡ written_into digits octets → after ≡ sqn_text sqn
unfolding written_into has_room
sqn_digits sqn digits {octets} is size e =
    let six : length octets ≡ sqn_size = ap length is ∙ length_digits 256 sqn_size sqn in
    e ∙ rw (eq-eqb (length digits) (2 * length octets) (omega arith)) (ap hex is)
