-- What was looked at holds no pair, so the places from i and j on decide.
use Rattle.std.proofs.Common.{◌+◌, ◌-◌, ◌<◌, ◌≡◌}
use Rattle.aka.specs.Auc.{unequal, pair_with, pair_from}
use Rattle.auc_record.specs.Views.{pair_of}
use Rattle.auc_record.proofs.pairs.equal_pair.Given as goal

abbrev pub invariant-loop-j : goal.invariant-loop-j
invariant-loop-j l = record {
  behind : l.i < l.j;
  none : pair_of l.pair ≡ unequal;
  decides : pair_with l.rands l.i (l.i + 1) (l.n - (l.i + 1)) ≡ pair_with l.rands l.i l.j (l.n - l.j);
}

abbrev pub invariant-search : goal.invariant-search
invariant-search l = record {
  none : pair_of l.pair ≡ unequal;
  decides : pair_from l.rands 0 l.n ≡ pair_from l.rands l.i (l.n - l.i);
}
