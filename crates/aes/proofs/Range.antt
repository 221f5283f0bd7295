-- The cipher gives 16 octets, of any input. Assumes nothing.
use Prim.Native.Nat.{ℕ, ◌+◌, ◌*◌, ◌%◌, ◌<◌}
use mathlib.Core.List.{List, [], ◌∷◌, ◌++◌}
use mathlib.Core.Path.{◌≡◌, refl}
use native.Mathlib.Omega.{arith}
use lib.ListN.{length, get_or}
use Rattle.octets.specs.Octets.{Octets, xor, Below, digits, encode}
use Rattle.octets.proofs.Numbers.{digits_below}
use Rattle.octets.proofs.Ranges.{below_append, below_map, below_at, below_xor}
use Rattle.aes_tables.specs.Sbox.{sbox}
use Rattle.aes_tables.proofs.Range.{sbox_lt}
use Rattle.aes_words.specs.Words.{columns}
use Rattle.aes.specs.Cipher.{at, column, state, sub_bytes, shift_rows, round_key, add_round_key, rounds, last_round, cipher}

pub length_cipher : (w : List ℕ) (input : Octets) → length (cipher w input) ≡ 16
unfolding digits xor shift_rows round_key add_round_key last_round cipher
length_cipher w input = refl

side_by_side : (p q r s : Octets) → Below 256 p → Below 256 q → Below 256 r → Below 256 s → Below 256 (p ++ (q ++ (r ++ s)))
side_by_side p q r s hp hq hr hs =
    below_append 256 p (q ++ (r ++ s)) hp (below_append 256 q (r ++ s) hq (below_append 256 r s hr hs))

columns_below : (a b c d : ℕ) → Below 256 (columns a b c d)
columns_below a b c d = side_by_side (encode 4 a) (encode 4 b) (encode 4 c) (encode 4 d) (four a) (four b) (four c) (four d)
  where
    four : (x : ℕ) → Below 256 (encode 4 x)
    four x = digits_below 256 4 x (omega arith)

state_below : (f : ℕ → ℕ → ℕ) → ((r c : ℕ) → f r c < 256) → Below 256 (state f)
state_below f h = side_by_side (column f 0) (column f 1) (column f 2) (column f 3) (four 0) (four 1) (four 2) (four 3)
  where
    four : (c : ℕ) → Below 256 (column f c)
    four c = below_map 256 (λ r. f r c) (0 ∷ 1 ∷ 2 ∷ 3 ∷ []) (λ r. h r c)

pub cipher_below : (w : List ℕ) (input : Octets) → Below 256 (cipher w input)
unfolding sub_bytes shift_rows round_key add_round_key last_round cipher
cipher_below w input =
    let before = rounds w 9 (add_round_key w 0 input) in
    let s = sub_bytes before in
    let octet : (i : ℕ) → get_or s i 0 < 256 = λ i. below_at 256 s i (omega arith) (below_map 256 sbox before sbox_lt) in
    below_xor 8 (shift_rows s) (round_key w 10)
    (state_below (λ r c. at s r ((c + r) % 4)) (λ r c. octet (r + 4 * ((c + r) % 4))))
    (columns_below (get_or w 40 0) (get_or w 41 0) (get_or w 42 0) (get_or w 43 0))
