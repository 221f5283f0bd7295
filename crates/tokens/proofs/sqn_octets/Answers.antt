-- `sqn_octets` is `encode`.
use Rattle.octets.proofs.Bytes.{encoded}
use Rattle.aka.specs.Layout.{sqn_size}
use Rattle.tokens.proofs.sqn_octets.Goals as goal

pub returns : goal.returns
returns c = rw c.to_be_bytes.ensures (encoded sqn_size c.args.x)
