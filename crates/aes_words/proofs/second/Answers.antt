use Rattle.std.proofs.Common.{List, ℕ, ap, ◌∙◌, get_or}
use Rattle.octets.proofs.Bytes.{encoded}
use Rattle.aes_words.proofs.second.Goals as goal

pub returns : goal.returns
returns c = ap (λ (l : List ℕ). get_or l 1 0) (c.to_be_bytes.ensures ∙ encoded 4 c.args.x)
