-- `amf_in` is the AMF of AUTN.
use Rattle.aka.specs.Layout.{read_autn}
use Rattle.tokens.proofs.amf_in.Goals as goal

pub returns : goal.returns
unfolding read_autn
returns c = c.piece.ensures
