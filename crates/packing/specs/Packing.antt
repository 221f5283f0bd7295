-- Numbers of a few bits each, one behind the other in octets, the first bit the most significant. Assumes nothing: these are definitions.
use Rattle.std.specs.Prelude.{ℕ, ◌-◌, ◌*◌, ◌^◌, List, length}
use Rattle.octets.specs.Octets.{Octets, digits, number, encode, decode}

-- the last `n` digits of `bits` bits of the number that the octets x spell
abbrev pub unpacked : (bits n : ℕ) → Octets → List ℕ
unpacked bits n x = digits (2 ^ bits) n (decode x)

-- the digits l of `bits` bits in `size` octets, from the first bit on; what is left behind them is 0
abbrev pub packed : (bits size : ℕ) → List ℕ → Octets
packed bits size l = encode size (number (2 ^ bits) l * 2 ^ (8 * size - bits * length l))
