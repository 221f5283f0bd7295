-- The outputs by set, and that a prepared RAND gives the functions of the family. Assumes nothing.
use Prim.Native.Nat.{ℕ}
use mathlib.Core.Bool.{false}
use mathlib.Core.List.{List}
use mathlib.Core.Path.{◌≡◌, refl, ap, ap₂, ◌∙◌}
use borrow.Author.Tests.{eq-eqb, ne_eqb}
use lib.Dec.{eqb}
use Rattle.octets.specs.Octets.{Octets}
use Rattle.aes_words.specs.declared.Block.{Block}
use Rattle.aes_words.specs.Block.{octets_of}
use Rattle.aes.specs.Cipher.{cipher, aes}
use Rattle.milenage.specs.declared.Outputs as milenage
use Rattle.aka.specs.Functions.{Keys}
use Rattle.functions.specs.declared.PreparedRand.{PreparedRand}
use Rattle.functions.specs.declared.PreparedRand.TheVariants.{TestSet, Milenage}
use Rattle.functions.specs.Sets.{Outputs, test_outputs, milenage_outputs, outputs, outputs_of, sets}
use Rattle.functions.specs.Challenge.{schedule_of}
use Rattle.functions.specs.PreparedRand.{outputs_from, mac_at, Prepared, PreparedLaw}

-- an output, by set
module _ {p : PreparedRand} {A : Type 0} (f : Outputs → A) where
  pub of_test_set : {x : Block} → p ≡ TestSet x → f (test_outputs (octets_of x)) ≡ f (outputs_from p)
  of_test_set e = rw e refl

  pub of_milenage : {m : milenage.Outputs} → p ≡ Milenage m
      → f (milenage_outputs (cipher m.cipher.now.schedule) (octets_of m.opc) (octets_of m.temp)) ≡ f (outputs_from p)
  of_milenage e = rw e refl

-- the two halves of OUT1
pub mac : (p : PreparedRand) (sqn amf : Octets) → mac_at p 0 sqn amf ≡ (outputs_from p).f1 sqn amf
unfolding test_outputs milenage_outputs
mac (TestSet x) sqn amf = refl
mac (Milenage m) sqn amf = refl

pub mac_s : (p : PreparedRand) (sqn amf : Octets) → mac_at p 8 sqn amf ≡ (outputs_from p).f1* sqn amf
unfolding test_outputs milenage_outputs
mac_s (TestSet x) sqn amf = refl
mac_s (Milenage m) sqn amf = refl

same : (keys : Keys) (rand : Octets) (p : PreparedRand) → Prepared keys rand p → outputs_from p ≡ outputs_of keys rand
unfolding outputs outputs_of schedule_of aes
same keys rand (TestSet x) made = rw (eq-eqb keys.set 0 made.set) (ap test_outputs made.base)
same keys rand (Milenage m) made =
    let other : eqb keys.set 0 ≡ false = ne_eqb keys.set 0 made.set in
    rw other
    (ap (λ (s : List ℕ). milenage_outputs (cipher s) (octets_of m.opc) (octets_of m.temp)) (made.under ∙ rw other)
    ∙ ap₂ (λ (opc base : Octets). milenage_outputs (aes keys.k) opc base) made.opc made.base)

module _ (keys : Keys) (rand : Octets) (p : PreparedRand) (made : Prepared keys rand p) where
  pub gives : PreparedLaw keys rand p
  unfolding sets
  gives =
      let e = same keys rand p made in
      record {
        f1 = λ sqn amf. ap (λ (o : Outputs). o.f1 sqn amf) e;
        f1* = λ sqn amf. ap (λ (o : Outputs). o.f1* sqn amf) e;
        f2 = ap (λ (o : Outputs). o.f2) e;
        f3 = ap (λ (o : Outputs). o.f3) e;
        f4 = ap (λ (o : Outputs). o.f4) e;
        f5 = ap (λ (o : Outputs). o.f5) e;
        f5* = ap (λ (o : Outputs). o.f5*) e;
      }

  -- the two that MILENAGE takes from one block
  pub gives_f2_f5 : (res ak : Octets) → (res ≡ (outputs_from p).f2) × (ak ≡ (outputs_from p).f5)
      → (res ≡ (sets.under keys).f2 rand) × (ak ≡ (sets.under keys).f5 rand)
  gives_f2_f5 res ak both = (both.0 ∙ gives.f2, both.1 ∙ gives.f5)
