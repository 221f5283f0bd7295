-- Octet strings as lists of numbers, the first octet the most significant. Assumes nothing: these are definitions.
use Rattle.std.specs.Prelude.{ℕ, zero, suc, ◌+◌, ◌*◌, ◌/◌, ◌%◌, ◌<◌, Bool, true, false, ◌&&◌, List, [], ◌∷◌, ◌++◌, eqb, length}
use Rattle.std.specs.Prelude.{get_or, take, drop, replicate}
use Rattle.std.specs.Int.Bits.{bit_xor}

abbrev pub Octets : Type 0
Octets = List ℕ

-- `n` octets of value 0
abbrev pub zeros : ℕ → Octets
zeros n = replicate n 0

-- `size` octets from place `start` on, counted from 0
abbrev pub part : ℕ → ℕ → Octets → Octets
part start size x = take size (drop start x)

-- turned left by `n` octets
unfoldable pub turn_left : ℕ → Octets → Octets
turn_left n x = drop n x ++ take n x

-- octet by octet, as far as the shorter of the two
unfoldable pub xor : Octets → Octets → Octets
xor [] y = []
xor (a ∷ x) [] = []
xor (a ∷ x) (b ∷ y) = bit_xor a b ∷ xor x y

unfoldable pub equal : Octets → Octets → Bool
equal [] [] = true
equal [] (b ∷ y) = false
equal (a ∷ x) [] = false
equal (a ∷ x) (b ∷ y) = eqb a b && equal x y

-- ---- numbers, in digits of any base, the most significant first

-- each element is a digit
abbrev pub Below : ℕ → List ℕ → Type 0
Below base l = (i : ℕ) → i < length l → get_or l i 0 < base

-- the last `n` digits of `x`
unfoldable pub digits : ℕ → ℕ → ℕ → List ℕ
digits base zero x = []
digits base (suc n) x = digits base n (x / base) ++ (x % base ∷ [])

-- the number that digits spell behind the number `x`
unfoldable pub spelt : ℕ → ℕ → List ℕ → ℕ
spelt base x [] = x
spelt base x (d ∷ rest) = spelt base (x * base + d) rest

abbrev pub number : ℕ → List ℕ → ℕ
number base l = spelt base 0 l

-- a number in `n` octets, and the number that octets spell
abbrev pub encode : ℕ → ℕ → Octets
encode n x = digits 256 n x

abbrev pub decode : Octets → ℕ
decode x = number 256 x
