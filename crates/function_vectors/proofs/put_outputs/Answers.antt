-- `put_outputs` puts the seven outputs on one line.
use Rattle.std.proofs.Common.{ℕ, List, ◌++◌, ap, ◌∙◌}
use Rattle.octets.specs.Ascii.{ascii}
use Rattle.hex_digits.specs.Hex.{hex}
use Rattle.function_vectors.specs.Answer.{outputs_text}
use Rattle.function_vectors.proofs.put_outputs.Goals as goal

pub returns : goal.returns
unfolding outputs_text
returns c =
    let o = c.args.o.now in
    c.put_keys.ensures
    ∙ ap
    (λ (l : List ℕ).
    l ++ (hex o.ck ++ ascii " ") ++ (hex o.ik ++ ascii " ") ++ (hex o.ak ++ ascii " ") ++ (hex o.aks ++ ascii "\n"))
    c.put_macs.ensures
