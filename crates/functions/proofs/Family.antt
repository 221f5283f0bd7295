-- The two sets are a lawful family: all that the protocol may use of them. Assumes nothing.
use Prim.Native.Nat.{ℕ, ◌+◌, ◌≤◌}
use mathlib.Core.Bool.{Bool, true, false, cond}
use mathlib.Core.List.{◌++◌}
use mathlib.Core.Path.{◌≡◌, refl, ◌∙◌}
use native.Mathlib.Omega.{arith}
use lib.Dec.{eqb}
use lib.ListN.{length, take, length-append}
use Rattle.octets.specs.Octets.{Octets, part, xor, turn_left, Below}
use Rattle.octets.proofs.XorLaws.{length_xor}
use Rattle.octets.proofs.Strings.{length-turn_left}
use Rattle.octets.proofs.Parts.{length_part}
use Rattle.octets.proofs.Ranges.{below_part, below_xor}
use Rattle.aes_schedule.specs.KeyExpansion.{key_expansion}
use Rattle.aes.specs.Cipher.{aes}
use Rattle.aes.proofs.Range.{length_cipher, cipher_below}
use Rattle.milenage.specs.Milenage.{constant, in1, out1, out}
use Rattle.aka.specs.Functions.{Keys, Shaped, Lawful}
use Rattle.functions.specs.Sets.{Outputs, test_outputs, milenage_outputs, base_of, outputs, outputs_of, sets}

-- the outputs for one RAND have their lengths
record Sized (o : Outputs) : Type 0 where
  f1 : (sqn amf : Octets) → length sqn ≡ 6 → length amf ≡ 2 → length (o.f1 sqn amf) ≡ 8
  f1* : (sqn amf : Octets) → length sqn ≡ 6 → length amf ≡ 2 → length (o.f1* sqn amf) ≡ 8
  f2 : length o.f2 ≡ 8
  f3 : length o.f3 ≡ 16
  f4 : length o.f4 ≡ 16
  f5 : length o.f5 ≡ 6
  f5* : length o.f5* ≡ 6

-- ---- set 0
module _ (x : Octets) (size : length x ≡ 16) where
  mac_size : (sqn amf : Octets) → length sqn ≡ 6 → length amf ≡ 2 → length (xor (take 8 x) (sqn ++ amf)) ≡ 8
  mac_size sqn amf hs ha =
      let first : length (take 8 x) ≡ 8 = length_part 0 8 x (omega arith) in
      let second : length (sqn ++ amf) ≡ 8 = length-append sqn amf ∙ omega arith in
      length_xor (take 8 x) (sqn ++ amf) (omega arith) ∙ first

  test_sized : Sized (test_outputs x)
  unfolding test_outputs
  test_sized = record {
    f1 = mac_size;
    f1* = mac_size;
    f2 = length_part 0 8 x (omega arith);
    f3 = length-turn_left 1 x ∙ size;
    f4 = length-turn_left 2 x ∙ size;
    f5 = length_part 3 6 x (omega arith);
    f5* = length_part 3 6 x (omega arith);
  }

-- ---- MILENAGE: an output is a block of the cipher and OPc
module _ (k opc t : Octets) (size : length opc ≡ 16) where
  masked_size : (x : Octets) → length (xor (aes k x) opc) ≡ 16
  unfolding aes
  masked_size x =
      let block : length (aes k x) ≡ 16 = length_cipher (key_expansion k) x in
      length_xor (aes k x) opc (omega arith) ∙ block

  out1_size : (i : Octets) → length (out1 (aes k) opc t i) ≡ 16
  unfolding out1
  out1_size i = masked_size _

  out_size : (r c : ℕ) → length (out (aes k) opc r c t) ≡ 16
  unfolding out
  out_size r c = masked_size _

  part_of_out1 : (start size : ℕ) (i : Octets) → start + size ≤ 16 → length (part start size (out1 (aes k) opc t i)) ≡ size
  part_of_out1 start size i h = length_part start size (out1 (aes k) opc t i) (omega (arith, out1_size i))

  part_of_out : (start size r c : ℕ) → start + size ≤ 16 → length (part start size (out (aes k) opc r c t)) ≡ size
  part_of_out start size r c h = length_part start size (out (aes k) opc r c t) (omega (arith, out_size r c))

  milenage_sized : Sized (milenage_outputs (aes k) opc t)
  unfolding milenage_outputs
  milenage_sized = record {
    f1 = λ sqn amf hs ha. part_of_out1 0 8 (in1 sqn amf) (omega arith);
    f1* = λ sqn amf hs ha. part_of_out1 8 8 (in1 sqn amf) (omega arith);
    f2 = part_of_out 8 8 _ _ (omega arith);
    f3 = out_size _ _;
    f4 = out_size _ _;
    f5 = part_of_out 0 6 _ _ (omega arith);
    f5* = part_of_out 0 6 _ _ (omega arith);
  }

  -- AK consists of octets where OPc does
  milenage_octets : Below 256 opc → Below 256 (milenage_outputs (aes k) opc t).f5
  unfolding milenage_outputs out aes
  milenage_octets ho =
      let x = xor (turn_left 0 (xor t opc)) (constant 1) in
      below_part 256 0 6 (xor (aes k x) opc) (omega arith) (below_xor 8 (aes k x) opc (cipher_below (key_expansion k) x) ho)

-- ---- the choice: a law of both sets is one of it

chosen : {A : Type 0} (P : A → Type 0) (b : Bool) (f g : A) → (b ≡ true → P f) → P g → P (cond b f g)
chosen P true f g hf hg = hf refl
chosen P false f g hf hg = hg

module _ (keys : Keys) (rand : Octets) (shape : Shaped keys) (size : length rand ≡ 16) where
  x_size : eqb keys.set 0 ≡ true → length (base_of keys rand) ≡ 16
  unfolding base_of
  x_size e = rw e (length_xor keys.k rand (omega (arith, shape.k)) ∙ shape.k)

  sized : Sized (outputs_of keys rand)
  unfolding outputs outputs_of
  sized =
      chosen Sized (eqb keys.set 0) (test_outputs (base_of keys rand)) (milenage_outputs (aes keys.k) keys.opc (base_of keys rand))
      (λ e. test_sized (base_of keys rand) (x_size e)) (milenage_sized keys.k keys.opc (base_of keys rand) shape.opc)

  ak_octets : Below 256 keys.k → Below 256 keys.opc → Below 256 rand → Below 256 (outputs_of keys rand).f5
  unfolding test_outputs base_of outputs outputs_of
  ak_octets hk ho hr =
      chosen (λ (o : Outputs). Below 256 o.f5) (eqb keys.set 0) (test_outputs (base_of keys rand))
      (milenage_outputs (aes keys.k) keys.opc (base_of keys rand))
      (λ e. rw e (below_part 256 3 6 (xor keys.k rand) (omega arith) (below_xor 8 keys.k rand hk hr)))
      (milenage_octets keys.k keys.opc (base_of keys rand) shape.opc ho)

pub lawful : Lawful sets
unfolding sets
lawful = record {
  lengths = λ edition keys admitted shape. record {
    f1 = λ sqn rand amf hs hr ha. (sized keys rand shape hr).f1 sqn amf hs ha;
    f1* = λ sqn rand amf hs hr ha. (sized keys rand shape hr).f1* sqn amf hs ha;
    f2 = λ rand hr. (sized keys rand shape hr).f2;
    f3 = λ rand hr. (sized keys rand shape hr).f3;
    f4 = λ rand hr. (sized keys rand shape hr).f4;
    f5 = λ rand hr. (sized keys rand shape hr).f5;
    f5* = λ rand hr. (sized keys rand shape hr).f5*;
  };
  octets = λ edition keys rand admitted shape hr hk ho h. ak_octets keys rand shape hr hk ho h;
}
