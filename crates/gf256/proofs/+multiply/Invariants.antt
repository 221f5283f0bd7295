-- The measure is `a`, which is halved.
use Rattle.gf256.proofs.+multiply.Given as goal

abbrev pub decreases-multiply : goal.decreases-multiply
decreases-multiply l = l.a
