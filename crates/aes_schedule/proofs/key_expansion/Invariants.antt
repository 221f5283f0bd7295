-- The words before those of `round` are done.
use Rattle.std.proofs.Common.{◌-◌, ◌*◌, ◌≡◌, length, take}
use Rattle.aes_schedule.specs.KeyExpansion.{rcon_octet, expanded}
use Rattle.aes_schedule.proofs.key_expansion.Given as goal

abbrev pub invariant-loop-round : goal.invariant-loop-round
invariant-loop-round l = record {
  size : length l.w ≡ 44;
  done : take (4 * l.round) l.w ≡ expanded (take 4 l.initial.w) (4 * l.round - 4);
  rcon : l.rc ≡ rcon_octet l.round;
}
