-- `sqn_ms` is SQN_MS taken out from under AK*.
use Rattle.std.proofs.Common.{ap, ◌∙◌}
use Rattle.octets.specs.Octets.{xor}
use Rattle.aka.specs.Layout.{read_auts}
use Rattle.functions.proofs.Prepared.{gives}
use Rattle.resynchronisation.proofs.sqn_ms.Goals as goal

pub returns : goal.returns
returns c = λ keys rand s.
    c.sqn_ms_in.ensures ∙ ap (xor (read_auts c.args.auts).concealed) (c.f5s.ensures ∙ (gives keys rand c.args.prepared.now s).f5*)
