-- The rounds before `round` are done.
use Rattle.std.proofs.Common.{◌-◌, ◌≡◌}
use Rattle.aes_words.specs.Block.{octets_of}
use Rattle.aes.specs.Cipher.{rounds}
use Rattle.aes.proofs.Cipher.encrypt.Given as goal

abbrev pub invariant-loop-round : goal.invariant-loop-round
invariant-loop-round l = octets_of l.s ≡ rounds l.self.schedule (l.round - 1) (octets_of l.initial.s)
