-- `admits` is the family's test.
use Rattle.functions.specs.Sets.{sets}
use Rattle.functions.proofs.admits.Goals as goal

pub returns-then-is_known : goal.returns-then-is_known
unfolding sets
returns-then-is_known c = rw (← c.is_known.ensures, c.if-is_known.true) c.is_known-then-is_known.ensures

pub returns-else-is_known : goal.returns-else-is_known
unfolding sets
returns-else-is_known c = rw (← c.is_known.ensures, c.if-is_known.false)
