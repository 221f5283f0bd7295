-- The laws of the AuC's answers, proved. Assumes nothing.
use Prim.Native.Nat.{ℕ}
use mathlib.Core.Bool.{true}
use mathlib.Core.Option.{Option}
use mathlib.Core.Path.{◌≡◌, refl, ap}
use native.Mathlib.Omega.{arith}
use borrow.Author.Tests.{le-leb, lt-ltb}
use lib.ListN.{length}
use lib.Pow.{pow_pos}
use Rattle.octets.specs.Octets.{Octets}
use Rattle.aka.specs.Layout.{part_from}
use Rattle.aka.specs.Functions.{Keys, Family}
use Rattle.aka.specs.Sequence.{Scheme, width_of, indices, limit}
use Rattle.aka.specs.Auc.{new_auc, valid_auc, unless_refused, order_outcome, order, resync_outcome, resync}
use Rattle.aka.specs.AucLaws.{AucPromise}
use Rattle.aka.proofs.Outcomes.{in_range_iff, valid_iff}
use Rattle.aka.proofs.Pairs.{earliest, all_unequal}
use Rattle.aka.proofs.Offsets.{at_offset, no_offset}
use Rattle.aka.proofs.OrderLaws.{order_laws}
use Rattle.aka.proofs.ResyncLaws.{resync_laws}

valid_new : (scheme : Scheme) (family : Family) (edition : ℕ) (keys : Keys) (amf : Octets) → family.admits edition keys ≡ true
    → valid_auc scheme family (new_auc edition keys amf) ≡ true
unfolding valid_auc
valid_new scheme family edition keys amf admitted =
    let w = width_of scheme edition in
    rw (admitted, le-leb 0 (limit w) (omega arith), lt-ltb 0 (indices w) (pow_pos w))

-- ---- all of it

pub auc_promise : (scheme : Scheme) (family : Family) → AucPromise scheme family
unfolding order order_outcome resync resync_outcome unless_refused
auc_promise scheme family = record {
  orders = order_laws scheme family;
  resyncs = resync_laws scheme family;
  default_order = λ auc rands buffer. refl;
  default_resync = λ auc rands buffer rand auts. refl;
  valid = valid_iff scheme family;
  new_valid = valid_new scheme family;
  range = in_range_iff;
  pair = earliest;
  no_pair = all_unequal;
  at_offset = at_offset;
  at_place = λ batch k n h. ap (λ (o : Option ℕ). part_from o batch) (at_offset (length batch) k n h);
  no_offset = no_offset;
  no_place = λ batch k h. ap (λ (o : Option ℕ). part_from o batch) (no_offset (length batch) k h);
}
