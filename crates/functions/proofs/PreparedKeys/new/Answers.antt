-- `new` makes the key schedule where the set needs one.
use Rattle.std.proofs.Common.{ap, ◌∙◌}
use borrow.Author.Tests.{eq-eqb, ne_eqb}
use Rattle.aes.specs.declared.Cipher.{Cipher}
use Rattle.aes_schedule.specs.KeyExpansion.{key_expansion}
use Rattle.functions.specs.Challenge.{schedule_of}
use Rattle.functions.proofs.PreparedKeys.new.Goals.{then-keys-eq0, else-keys-eq0}
use Rattle.functions.proofs.PreparedKeys.new.Goals as goal

pub invariant_of-result : goal.invariant_of-result
unfolding schedule_of
invariant_of-result c = record {
  made = elim c.if-keys-eq0.branch [
    | then-keys-eq0 w ↦ ap (λ (x : Cipher). x.schedule) w.cipher-is ∙ rw (eq-eqb _ _ w.if-keys-eq0.true)
    | else-keys-eq0 w ↦
        ap (λ (x : Cipher). x.schedule) w.cipher-is ∙ w.new-cipher.ensures ∙ ap key_expansion w.into.ensures
        ∙ rw (ne_eqb _ _ w.if-keys-eq0.false)
  ];
}
