-- The key expansion of AES-128: FIPS 197, section 5.2, in its letters: w is the key schedule. Assumes nothing: these are definitions.
use Rattle.std.specs.Prelude.{ℕ, zero, suc, ◌+◌, ◌-◌, ◌/◌, ◌%◌, cond, List, [], ◌∷◌, ◌++◌, map, eqb, get_or}
use Rattle.std.specs.Int.Bits.{bit_xor}
use Rattle.octets.specs.Octets.{Octets, part, turn_left, encode, decode}
use Rattle.gf256.specs.Field.{xtimes}
use Rattle.aes_tables.specs.Sbox.{sbox}

unfoldable pub rot_word : ℕ → ℕ
rot_word x = decode (turn_left 1 (encode 4 x))

unfoldable pub sub_word : ℕ → ℕ
sub_word x = decode (map sbox (encode 4 x))

-- the octet of Rcon[j] that is not 0: x^(j-1)
unfoldable pub rcon_octet : ℕ → ℕ
rcon_octet j = xtimes (j - 1) 1

-- Rcon[j]
unfoldable pub rcon : ℕ → ℕ
rcon j = decode (rcon_octet j ∷ 0 ∷ 0 ∷ 0 ∷ [])

-- what w[i - 4] is added to, of w[i - 1]
unfoldable pub temp : ℕ → ℕ → ℕ
temp x i = cond (eqb (i % 4) 0) (bit_xor (sub_word (rot_word x)) (rcon (i / 4))) x

-- w[i], of the words before it
unfoldable pub next_word : List ℕ → ℕ → ℕ
next_word w i = bit_xor (get_or w (i - 4) 0) (temp (get_or w (i - 1) 0) i)

-- the four words of the key
unfoldable pub key_words : Octets → List ℕ
key_words key = decode (part 0 4 key) ∷ decode (part 4 4 key) ∷ decode (part 8 4 key) ∷ decode (part 12 4 key) ∷ []

-- `first` words and n more
unfoldable pub expanded : List ℕ → ℕ → List ℕ
expanded first zero = first
expanded first (suc n) = expanded first n ++ (next_word (expanded first n) (n + 4) ∷ [])

-- the key schedule: 44 words
unfoldable pub key_expansion : Octets → List ℕ
key_expansion key = expanded (key_words key) 40
