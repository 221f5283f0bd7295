-- `sqn_in` is SQN taken out from under AK.
use Rattle.std.proofs.Common.{ap, ◌∙◌}
use Rattle.octets.specs.Octets.{Octets, xor}
use Rattle.aka.specs.Layout.{read_autn}
use Rattle.tokens.proofs.sqn_in.Goals as goal

pub returns : goal.returns
unfolding read_autn
returns c = c.xor.ensures ∙ ap (λ (x : Octets). xor x c.args.ak) c.piece.ensures
