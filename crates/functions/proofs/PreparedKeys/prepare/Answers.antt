-- `prepare` takes a RAND up under the keys.
use Rattle.std.proofs.Common.{ℕ, ◌≡◌, ap, ap₂, ◌∙◌, false, List}
use borrow.Author.Tests.{eq-eqb, ne_eqb}
use lib.Dec.{eqb}
use Rattle.octets.specs.Octets.{Octets}
use Rattle.aes_words.specs.Block.{octets_of}
use Rattle.aes.specs.Cipher.{cipher, aes}
use Rattle.milenage.specs.Milenage.{temp}
use Rattle.functions.specs.Sets.{base_of}
use Rattle.functions.specs.Challenge.{schedule_of}
use Rattle.functions.proofs.PreparedKeys.prepare.Goals as goal

pub returns-then-self-eq0 : goal.returns-then-self-eq0
unfolding base_of
returns-then-self-eq0 c = record { set = c.if-self-eq0.true; base = c.x.ensures ∙ rw (eq-eqb _ _ c.if-self-eq0.true) }

pub returns : goal.returns
unfolding base_of schedule_of aes
returns c =
    let keys = c.args.self.now.keys in
    let made = c.args.self.now.made in
    let left : eqb keys.set 0 ≡ false = ne_eqb _ _ c.if-self-eq0.false in
    let opc = c.into-opc in
    let rand = c.into in
    record {
      set = c.if-self-eq0.false;
      opc = opc.ensures;
      base =
          c.temp-temp.ensures
          ∙ ap (λ (s : List ℕ). temp (cipher s) (octets_of opc.result) (octets_of rand.result)) (made ∙ rw left)
          ∙ ap₂ (λ (o r : Octets). temp (aes keys.k) o r) opc.ensures rand.ensures
          ∙ rw left;
      under = made;
    }
