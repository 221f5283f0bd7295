-- `append` copies as much of the part as there is room for behind the bytes that are used.
use Rattle.std.proofs.Common.{ℕ, ◌+◌, refl, ap, ◌∙◌, length, take, arith}
use mathlib.Core.Path.{ap₂}
use lib.Seq.{take-length}
use Rattle.octets.proofs.Copies.{copied_at}
use Rattle.console.specs.Buffers.{buffer_of}
use Rattle.console.proofs.BufferLaws.{appended_is}
use Rattle.console.proofs.append.Goals as goal

pub returns : goal.returns
returns c =
    let from = c.min-from in
    let buffer = c.args.buffer.now in
    let part = take c.min-n.result c.args.part.now in
    ap₂ buffer_of (ap (λ (k : ℕ). from.result + k) c.copy.ensures.count)
    (copied_at part buffer from.result (length buffer) refl (c.copy.ensures.octets ∙ rw take-length) (omega arith))
    ∙ appended_is buffer c.args.used c.args.part.now from.ensures c.min-n.ensures
