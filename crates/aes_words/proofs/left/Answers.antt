use Rattle.std.proofs.Common.{arith}
use Rattle.aes_words.proofs.Turns.{rotated}
use Rattle.aes_words.proofs.left.Goals as goal

pub returns : goal.returns
returns c = rotated c.args.n c.args.x c.requires (omega arith) c.rotate_left.ensures
