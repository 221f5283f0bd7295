-- `new` is the vector: each part is its function's, of RAND.
use Rattle.std.proofs.Common.{refl}
use Rattle.functions.specs.Challenge.{keys_of}
use Rattle.functions.proofs.Prepared.{gives, gives_f2_f5}
use Rattle.aka.specs.Auc.{make_autn, make_vector}
use Rattle.batches.proofs.vectors.Vector.new.Goals as goal

pub returns : goal.returns
unfolding make_vector make_autn
returns c =
    let p = c.prepare-prepared in
    let of = gives (keys_of c.args.keys.now.keys) c.args.rand p.result p.ensures in
    let both = gives_f2_f5 (keys_of c.args.keys.now.keys) c.args.rand p.result p.ensures _ _ c.f2_f5.ensures in
    rw (c.autn-autn.ensures, c.f1-mac.ensures, of.f1, both.0, both.1, c.f3-ck.ensures, of.f3, c.f4-ik.ensures, of.f4) refl
