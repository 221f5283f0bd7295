-- `encrypted` is AES: the calls' equations, put together.
use Rattle.std.proofs.Common.{ap, ◌∙◌}
use mathlib.Core.Path.{ap₂}
use Rattle.aes_schedule.specs.KeyExpansion.{key_expansion}
use Rattle.aes.specs.Cipher.{aes, cipher}
use Rattle.aes_vectors.proofs.encrypted.Goals as goal

pub returns : goal.returns
unfolding aes
returns c =
    let key = c.new.ensures ∙ ap key_expansion c.into.ensures in
    c.into-3.ensures ∙ c.encrypt.ensures ∙ ap₂ cipher key c.into-2.ensures
