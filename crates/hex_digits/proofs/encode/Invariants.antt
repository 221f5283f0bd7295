-- The slice is as it was, with the hex of the first i octets copied in.
use Rattle.std.proofs.Common.{◌*◌, ◌≡◌}
use lib.Seq.{paste}
use Rattle.hex_digits.specs.Hex.{hex}
use Rattle.hex_digits.proofs.encode.Given as goal

abbrev pub invariant-loop-i : goal.invariant-loop-i
invariant-loop-i l = l.out ≡ paste l.fn.out 0 (hex l.octets) (2 * l.i)
