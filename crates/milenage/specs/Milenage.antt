-- MILENAGE: 3GPP TS 35.206, section 4.1, in its letters. Rotations are whole octets: r1 to r5 are 64, 0, 32, 64 and 96 bits.
-- Assumes nothing: these are definitions.
use Rattle.std.specs.Prelude.{ℕ, [], ◌∷◌, ◌++◌}
use Rattle.octets.specs.Octets.{Octets, zeros, xor, turn_left}

-- c2 to c5: all zero but the last octet
unfoldable pub constant : ℕ → Octets
constant c = zeros 15 ++ (c ∷ [])

-- IN1: SQN and AMF, twice
unfoldable pub in1 : Octets → Octets → Octets
in1 sqn amf = sqn ++ (amf ++ (sqn ++ amf))

-- E is the block cipher under K
module _ (E : Octets → Octets) (opc : Octets) where
  -- TEMP (document 01: T)
  unfoldable pub temp : Octets → Octets
  temp rand = E (xor rand opc)

  -- OUT1, of TEMP and IN1; c1 is 0
  unfoldable pub out1 : Octets → Octets → Octets
  out1 t i = xor (E (xor t (turn_left 8 (xor i opc)))) opc

  -- OUT2 to OUT5, of TEMP, at the rotation by r octets and the constant c
  unfoldable pub out : ℕ → ℕ → Octets → Octets
  out r c t = xor (E (xor (turn_left r (xor t opc)) (constant c))) opc

  abbrev pub out2 : Octets → Octets
  out2 t = out 0 1 t

  abbrev pub out3 : Octets → Octets
  out3 t = out 4 2 t

  abbrev pub out4 : Octets → Octets
  out4 t = out 8 4 t

  abbrev pub out5 : Octets → Octets
  out5 t = out 12 8 t
