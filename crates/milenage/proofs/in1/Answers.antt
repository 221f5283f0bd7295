-- `in1` is IN1: two words, twice.
use Rattle.std.proofs.Common.{◌++◌, ap₂, ◌∙◌, rules}
use Rattle.octets.specs.Octets.{Octets}
use Rattle.octets.proofs.Strings.{listed_all}
use Rattle.aes_words.proofs.Blocks.{joined}
use Rattle.milenage.specs.Milenage.{in1}
use Rattle.milenage.proofs.in1.Goals as goal

pub returns : goal.returns
unfolding in1
returns c =
    let first = c.word-first.ensures in
    let second = c.word-second.ensures in
    joined _ _ _ _ first second first second
    ∙ ap₂ (λ (s m : Octets). s ++ (m ++ (s ++ m))) (listed_all c.args.sqn 6 (search rules)) (listed_all c.args.amf 2 (search rules))
