-- `mac_s_in` is the MAC-S of AUTS.
use Rattle.aka.specs.Layout.{read_auts}
use Rattle.tokens.proofs.mac_s_in.Goals as goal

pub returns : goal.returns
unfolding read_auts
returns c = c.array.ensures
