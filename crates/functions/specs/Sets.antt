-- The function sets of document 01, 'The functions': set 0, the test set of the bench, and set 1, MILENAGE; and which keys a record of an
-- edition may hold.
-- Assumes nothing: these are definitions.
use Rattle.std.specs.Prelude.{ℕ, Bool, ◌&&◌, cond, ◌++◌, eqb, leb, take}
use Rattle.octets.specs.Octets.{Octets, part, xor, turn_left}
use Rattle.aes.specs.Cipher.{aes}
use Rattle.milenage.specs.Milenage.{temp, in1, out1, out2, out3, out4, out5}
use Rattle.aka.specs.Functions.{Keys, Family}
use Rattle.aka.specs.Editions.{is_edition}

-- the outputs of the seven functions for one RAND; f1 and f1* are of an SQN and an AMF besides
pub record Outputs : Type 0 where
  pub f1 : (sqn amf : Octets) → Octets  -- MAC
  pub f1* : (sqn amf : Octets) → Octets  -- MAC-S
  pub f2 : Octets  -- RES
  pub f3 : Octets  -- CK
  pub f4 : Octets  -- IK
  pub f5 : Octets  -- AK
  pub f5* : Octets  -- AK*

-- ---- set 0, in the manner of TS 34.108, of X = K xor RAND; OPc is not used

unfoldable pub test_outputs : (x : Octets) → Outputs
test_outputs x = record {
  f1 = λ sqn amf. xor (take 8 x) (sqn ++ amf);
  f1* = λ sqn amf. xor (take 8 x) (sqn ++ amf);
  f2 = take 8 x;
  f3 = turn_left 1 x;
  f4 = turn_left 2 x;
  f5 = part 3 6 x;
  f5* = part 3 6 x;
}

-- ---- set 1, TS 35.206, of T = E(RAND xor OPc); E is AES-128 under K

unfoldable pub milenage_outputs : (E : Octets → Octets) (opc t : Octets) → Outputs
milenage_outputs E opc t = record {
  f1 = λ sqn amf. take 8 (out1 E opc t (in1 sqn amf));
  f1* = λ sqn amf. part 8 8 (out1 E opc t (in1 sqn amf));
  f2 = part 8 8 (out2 E opc t);
  f3 = out3 E opc t;
  f4 = out4 E opc t;
  f5 = take 6 (out2 E opc t);
  f5* = take 6 (out5 E opc t);
}

-- ---- the choice by set. A set above 1 is not known, and callers refuse it

-- what all outputs for one RAND are made of: X or T
unfoldable pub base_of : Keys → (rand : Octets) → Octets
base_of keys rand = cond (eqb keys.set 0) (xor keys.k rand) (temp (aes keys.k) keys.opc rand)

unfoldable pub outputs : (set : ℕ) (E : Octets → Octets) (opc base : Octets) → Outputs
outputs set E opc base = cond (eqb set 0) (test_outputs base) (milenage_outputs E opc base)

unfoldable pub outputs_of : Keys → (rand : Octets) → Outputs
outputs_of keys rand = outputs keys.set (aes keys.k) keys.opc (base_of keys rand)

-- there is such a set
unfoldable pub is_set : (set : ℕ) → Bool
is_set set = leb set 1

unfoldable pub sets : Family
sets = record {
  admits = λ edition keys. is_edition edition && is_set keys.set;
  under = λ keys. record {
    f1 = λ sqn rand amf. (outputs_of keys rand).f1 sqn amf;
    f1* = λ sqn rand amf. (outputs_of keys rand).f1* sqn amf;
    f2 = λ rand. (outputs_of keys rand).f2;
    f3 = λ rand. (outputs_of keys rand).f3;
    f4 = λ rand. (outputs_of keys rand).f4;
    f5 = λ rand. (outputs_of keys rand).f5;
    f5* = λ rand. (outputs_of keys rand).f5*;
  };
}
