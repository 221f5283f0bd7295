-- `temp` is TEMP.
use Rattle.std.proofs.Common.{ap, ◌∙◌}
use Rattle.aes.specs.Cipher.{cipher}
use Rattle.milenage.specs.Milenage.{temp}
use Rattle.milenage.proofs.temp.Goals as goal

pub returns : goal.returns
unfolding temp
returns c = c.encrypt.ensures ∙ ap (cipher _) c.bitxor.ensures
