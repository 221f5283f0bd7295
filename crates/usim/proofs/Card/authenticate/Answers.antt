-- The keys prepared are the card's.
use Rattle.std.proofs.Common.{subst}
use Rattle.functions.specs.declared.Keys.{Keys}
use Rattle.functions.specs.Challenge.{keys_of}
use Rattle.functions.specs.PreparedRand.{Prepared}
use Rattle.usim.proofs.Card.authenticate.Goals as goal

pub returns : goal.returns
returns c =
    c.judge.ensures c.args.rand
    (subst (λ (keys : Keys). Prepared (keys_of keys) c.args.rand c.prepare-prepared.result) c.new-keys.ensures c.prepare-prepared.ensures)
