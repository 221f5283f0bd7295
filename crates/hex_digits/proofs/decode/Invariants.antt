-- The slice is as it was, with the text's first i octets copied in.
use Rattle.std.proofs.Common.{◌≡◌}
use lib.Seq.{paste}
use Rattle.hex_digits.specs.Hex.{unhex}
use Rattle.hex_digits.proofs.decode.Given as goal

abbrev pub invariant-loop-i : goal.invariant-loop-i
invariant-loop-i l = l.out ≡ paste l.fn.out 0 (unhex l.text) l.i
