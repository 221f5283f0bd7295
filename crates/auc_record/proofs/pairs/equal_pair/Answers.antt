-- `equal_pair` is the earliest pair.
use Rattle.std.proofs.Common.{sym, ◌∙◌, arith}
use Rattle.aka.proofs.Steps.{with_hit, with_miss, with_end, from_hit, from_miss, from_end}
use Rattle.auc_record.proofs.pairs.equal_pair.Goals as goal

pub loop-j-preserved : goal.loop-j-preserved
loop-j-preserved c =
    let l = c.loop-j in
    let differ = sym c.equal_rands.ensures ∙ c.if-equal_rands.false in
    record {
      behind = omega arith;
      none = l.invariant.none;
      decides = l.invariant.decides ∙ with_miss c.args.rands.now c.args.n c.search.i l.j (omega arith) differ;
    }

pub search-preserved : goal.search-preserved
search-preserved c =
    let s = c.search in
    let l = c.loop-j in
    let none = l.invariant.decides ∙ with_end c.args.rands.now c.args.n s.i l.j (omega arith) in
    record {
      none = l.invariant.none;
      decides = s.invariant.decides ∙ from_miss c.args.rands.now c.args.n s.i (omega arith) none;
    }

pub returns-after-search : goal.returns-after-search
returns-after-search c =
    let s = c.search in
    s.invariant.none ∙ sym (s.invariant.decides ∙ from_end c.args.rands.now c.args.n s.i (omega arith))

pub returns-then-equal_rands : goal.returns-then-equal_rands
returns-then-equal_rands c =
    let s = c.search in
    let l = c.loop-j in
    let agree = sym c.equal_rands.ensures ∙ c.if-equal_rands.true in
    let hit = l.invariant.decides ∙ with_hit c.args.rands.now c.args.n s.i l.j (omega arith) agree in
    sym (s.invariant.decides ∙ from_hit c.args.rands.now c.args.n s.i l.j (omega arith) hit)
