-- `sqn_ms_in` is SQN_MS taken out from under AK*.
use Rattle.std.proofs.Common.{ap, ◌∙◌}
use Rattle.octets.specs.Octets.{Octets, xor}
use Rattle.aka.specs.Layout.{read_auts}
use Rattle.tokens.proofs.sqn_ms_in.Goals as goal

pub returns : goal.returns
unfolding read_auts
returns c = c.xor.ensures ∙ ap (λ (x : Octets). xor x c.args.akstar) c.array.ensures
