-- What is shown of the store is its answer, since it has its length.
use Rattle.std.proofs.Common.{◌≡◌, sym, ap, length, arith}
use Rattle.octets.specs.Octets.{Octets}
use Rattle.aka.specs.Layout.{store_size}
use Rattle.aka.specs.Handset.{Store, Outcome, Source, in_stored, source, part_of}
use Rattle.aka.proofs.Handset.{parts_known, source_known}
use Rattle.handset_store.specs.Views.{store_of}
use Rattle.handset_store.proofs.shown.Goals as goal

store_known : (o : Outcome) (s : Store) (rand fresh : Octets) → in_stored ≡ source o s rand fresh → length s.octets ≡ store_size
store_known o s rand fresh e = (parts_known s rand fresh (source_known o s rand fresh in_stored (λ q. cc) (sym e))).0

pub slice_bounds-result-count : goal.slice_bounds-result-count
slice_bounds-result-count c =
    omega (arith, store_known _ _ _ _ (rw c.in-Some-Stored.field-0-is at c.in-Some-Stored.ensures))

pub slice_bounds-result-start : goal.slice_bounds-result-start
slice_bounds-result-start c =
    omega (arith, store_known _ _ _ _ (rw c.in-Some-Stored.field-0-is at c.in-Some-Stored.ensures))

pub returns-in-Some-Stored-clause-octets : goal.returns-in-Some-Stored-clause-octets
returns-in-Some-Stored-clause-octets c =
    let from = rw c.in-Some-Stored.field-0-is at c.in-Some-Stored.ensures in
    let store = store_of c.args.held c.args.stored.now in
    rw (store_known _ _ _ _ from) (ap (λ (at : Source). part_of at store c.args.fresh.now) from)
