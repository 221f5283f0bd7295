-- `encrypted` is AES-128 under K.
use Rattle.std.proofs.Common.{ℕ, List, ap, ◌∙◌}
use Rattle.aes_words.specs.Block.{octets_of}
use Rattle.aes_schedule.specs.KeyExpansion.{key_expansion}
use Rattle.aes.specs.Cipher.{cipher, aes}
use Rattle.milenage.proofs.opc.encrypted.Goals as goal

pub returns : goal.returns
unfolding aes
returns c =
    c.encrypt.ensures
    ∙ ap (λ (schedule : List ℕ). cipher schedule (octets_of c.args.block))
    (c.new.ensures ∙ ap key_expansion c.into.ensures)
