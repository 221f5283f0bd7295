-- OPc of MILENAGE: 3GPP TS 35.206, section 4.1, in its letters. Assumes nothing: these are definitions.
use Rattle.octets.specs.Octets.{Octets, xor}

-- OPc = OP xor E(OP); E is the block cipher under K
unfoldable pub opc : (E : Octets → Octets) → Octets → Octets
opc E op = xor op (E op)
