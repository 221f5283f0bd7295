-- `key_expansion` is the key schedule. Assumes nothing.
use Rattle.std.proofs.Common.{List, ℕ, ◌≡◌, ◌+◌, ◌*◌, ◌-◌, ◌<◌, refl, sym, ap, ap₂, ◌∙◌, length, take, arith}
use lib.ListN.{length-set}
use lib.Seq.{take_all}
use Rattle.gf256.specs.Field.{xtimes}
use Rattle.aes_schedule.specs.KeyExpansion.{rcon_octet, expanded, key_expansion}
use Rattle.aes_schedule.proofs.Expansion.{key_words_lem, rcon_doubled, next_words}
use Rattle.aes_schedule.proofs.key_expansion.Goals as goal

pub loop-round-init : goal.loop-round-init
unfolding expanded rcon_octet xtimes
loop-round-init c = record { size = refl; done = refl; rcon = refl }

pub loop-round-preserved : goal.loop-round-preserved
loop-round-preserved c =
    let l = c.loop-round in
    let next = c.next_words-next.ensures in
    let fits : 4 * l.round + 3 < length l.w = omega arith in
    record {
      size = simp length-set l.invariant.size;
      done = next_words _ _ _ _ _ _ _ (omega arith) fits l.invariant.done next.a next.b next.c next.d;
      rcon = rcon_doubled _ (omega arith) l.invariant.rcon c.double-rc.ensures;
    }

pub returns : goal.returns
unfolding key_expansion
returns c =
    let l = c.loop-round in
    let key = c.args.key in
    let end : l.round ≡ 11 = omega arith in
    sym (take_all 44 l.w (omega arith))
    ∙ ap (λ (n : ℕ). take (4 * n) l.w) (sym end) ∙ l.invariant.done
    ∙ ap₂ (λ (first : List ℕ) (n : ℕ). expanded first (4 * n - 4))
    (key_words_lem key.a key.b key.c key.d (omega arith) (omega arith) (omega arith) (omega arith)) end
