-- `put_hex` puts octets in hex and a byte behind what was put before.
use Rattle.std.proofs.Common.{◌∙◌, length-drop, length-take, arith}
use Rattle.function_vectors.proofs.Texts.{put_hex, written}
use Rattle.function_vectors.proofs.put_hex.Goals as goal

pub returns-clause-text : goal.returns-clause-text
returns-clause-text c =
    let octets = c.args.octets.now in
    put_hex c.args.text.now octets c.args.used c.args.end c.requires
    (c.write.ensures.text ∙ written _ octets (simp (length-take, length-drop) (omega arith)))
