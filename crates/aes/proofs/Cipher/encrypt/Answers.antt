-- `encrypt` is the cipher. Assumes nothing.
use Rattle.std.proofs.Common.{ℕ, ◌-◌, ◌≡◌, refl, ap, ◌∙◌, arith}
use Rattle.aes_words.specs.Block.{octets_of}
use Rattle.aes.specs.Cipher.{rounds, last_round, cipher}
use Rattle.aes.proofs.Rounds.{next_round}
use Rattle.aes.proofs.Cipher.encrypt.Goals as goal

pub loop-round-init : goal.loop-round-init
unfolding rounds
loop-round-init c = refl

pub loop-round-preserved : goal.loop-round-preserved
loop-round-preserved c = next_round _ _ _ _ _ c.loop-round.auto.round c.loop-round.invariant c.one_round-s.ensures

pub returns : goal.returns
unfolding cipher
returns c =
    let l = c.loop-round in
    let w = c.args.self.now.schedule in
    let s₀ = c.add_round_key-s in
    let nine : l.round - 1 ≡ 9 = omega (arith, l.auto.round-end) in
    c.last_round.ensures
    ∙ ap (last_round w 10)
    (l.invariant ∙ ap (λ (n : ℕ). rounds w n (octets_of s₀.result)) nine ∙ ap (rounds w 9) s₀.ensures)
