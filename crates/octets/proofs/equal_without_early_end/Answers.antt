use Rattle.std.proofs.Common.{sym, ◌∙◌, ap, ap₂, ◌&&◌, arith, length}
use lib.Dec.{eqb}
use Rattle.std.proofs.lemmas.Iterator.{empty_from_Zip}
use Rattle.octets.specs.Octets.{Octets, equal}
use Rattle.octets.proofs.Comparing.{compare_next, compare_end}
use Rattle.octets.proofs.equal_without_early_end.Goals as goal

pub loop-a-preserved : goal.loop-a-preserved
loop-a-preserved c =
    let l = c.loop-a in
    let left = c.in-Some.ensures.steps in
    record {
      size = omega (arith, ap length left.0, ap length left.1);
      decides = l.invariant.decides ∙ ap₂ (λ (x y : Octets). eqb l.differences 0 && equal x y) left.0 left.1
          ∙ compare_next c.in-Some.a.now c.in-Some.b.now l.differences c.next.new.self.a.rest.now c.next.new.self.b.rest.now;
    }

pub returns : goal.returns
returns c =
    let l = c.loop-a in
    let ended = empty_from_Zip l.a-iterator c.next.new.self _ c.in-None.is c.next.ensures.steps l.invariant.size in
    sym (l.invariant.decides ∙ compare_end l.differences ended)
