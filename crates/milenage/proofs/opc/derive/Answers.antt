-- `derive` is OPc.
use Rattle.std.proofs.Common.{ap, ap₂, ◌∙◌}
use Rattle.octets.specs.Octets.{xor}
use Rattle.aes.specs.Cipher.{aes}
use Rattle.milenage.specs.Opc.{opc}
use Rattle.milenage.proofs.opc.derive.Goals as goal

pub returns : goal.returns
unfolding opc
returns c =
    let op = c.from-block.ensures in
    c.into.ensures ∙ c.bitxor.ensures ∙ ap₂ xor op (c.encrypted.ensures ∙ ap (aes c.args.k) op)
