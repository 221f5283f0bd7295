-- The cipher of AES-128: FIPS 197, section 5.1. Assumes nothing: these are definitions.
use Rattle.std.specs.Prelude.{ℕ, zero, suc, ◌+◌, ◌*◌, ◌%◌, List, [], ◌∷◌, ◌++◌, map, get_or}
use Rattle.std.specs.Int.Bits.{bit_xor}
use Rattle.octets.specs.Octets.{Octets, xor}
use Rattle.gf256.specs.Field.{times}
use Rattle.aes_tables.specs.Sbox.{sbox}
use Rattle.aes_words.specs.Words.{columns}
use Rattle.aes_schedule.specs.KeyExpansion.{key_expansion}

-- ---- the state (3.4): 16 octets, that of row r and column c at place r + 4c

-- s_(r,c)
abbrev pub at : Octets → ℕ → ℕ → ℕ
at s r c = get_or s (r + 4 * c) 0

abbrev pub column : (ℕ → ℕ → ℕ) → ℕ → Octets
column f c = f 0 c ∷ f 1 c ∷ f 2 c ∷ f 3 c ∷ []

-- the state with f r c in row r and column c
abbrev pub state : (ℕ → ℕ → ℕ) → Octets
state f = column f 0 ++ (column f 1 ++ (column f 2 ++ column f 3))

-- ---- the four steps of a round

-- 5.1.1
unfoldable pub sub_bytes : Octets → Octets
sub_bytes s = map sbox s

-- 5.1.2: row r is turned left by r places
unfoldable pub shift_rows : Octets → Octets
shift_rows s = state (λ r c. at s r ((c + r) % 4))

-- 5.1.3: the product of the matrix and one column
unfoldable pub mix_column : ℕ → ℕ → ℕ → ℕ → Octets
mix_column s0 s1 s2 s3 =
    bit_xor (bit_xor (bit_xor (times 2 s0) (times 3 s1)) s2) s3
    ∷ bit_xor (bit_xor (bit_xor s0 (times 2 s1)) (times 3 s2)) s3
    ∷ bit_xor (bit_xor (bit_xor s0 s1) (times 2 s2)) (times 3 s3)
    ∷ bit_xor (bit_xor (bit_xor (times 3 s0) s1) s2) (times 2 s3)
    ∷ []

unfoldable pub mix_columns : Octets → Octets
mix_columns s = mixed_at 0 ++ (mixed_at 1 ++ (mixed_at 2 ++ mixed_at 3))
  where
    mixed_at : ℕ → Octets
    mixed_at c = mix_column (at s 0 c) (at s 1 c) (at s 2 c) (at s 3 c)

-- the words w[4 round] to w[4 round + 3] of the key schedule
unfoldable pub round_key : List ℕ → ℕ → Octets
round_key w round = columns (get_or w (4 * round) 0) (get_or w (4 * round + 1) 0) (get_or w (4 * round + 2) 0) (get_or w (4 * round + 3) 0)

-- 5.1.4
unfoldable pub add_round_key : List ℕ → ℕ → Octets → Octets
add_round_key w round s = xor s (round_key w round)

-- ---- the cipher

unfoldable pub one_round : List ℕ → ℕ → Octets → Octets
one_round w round s = add_round_key w round (mix_columns (shift_rows (sub_bytes s)))

-- rounds 1 to n
unfoldable pub rounds : List ℕ → ℕ → Octets → Octets
rounds w zero s = s
rounds w (suc n) s = one_round w (suc n) (rounds w n s)

-- the round without MixColumns
unfoldable pub last_round : List ℕ → ℕ → Octets → Octets
last_round w round s = add_round_key w round (shift_rows (sub_bytes s))

-- 10 rounds, with the key schedule w
unfoldable pub cipher : List ℕ → Octets → Octets
cipher w input = last_round w 10 (rounds w 9 (add_round_key w 0 input))

-- AES-128 under a key: E of MILENAGE
unfoldable pub aes : Octets → Octets → Octets
aes key input = cipher (key_expansion key) input
