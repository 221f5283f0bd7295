-- `turned_left` turns left by n octets: the others are put in front, and the first n behind them.
use Rattle.std.proofs.Common.{ℕ, ◌+◌, ◌-◌, ◌≡◌, ◌++◌, ap, ◌∙◌, length, take, drop, length-drop, length-take, arith, rules}
use lib.Seq.{take_all}
use Rattle.octets.specs.Octets.{Octets, zeros, part, turn_left}
use Rattle.octets.proofs.PartByPart.{filled, put_next, filled_all}
use Rattle.test_set.proofs.turned_left.Goals as goal

pub returns : goal.returns
unfolding turn_left
returns c =
    let x = c.args.x in
    let n = c.args.n in
    let long : length x ≡ 16 = search rules in
    let others : length (part n (16 - n) x) ≡ 16 - n
    = ap length (take_all (16 - n) (drop n x) (omega (arith, length-drop n x))) ∙ length-drop n x ∙ omega arith in
    let first : length (take n x) ≡ n = omega (arith, length-take n x) in
    let behind : 0 + (16 - n) ≡ 16 - n = omega arith in
    let one =
    filled (zeros 16) (part n (16 - n) x) (16 - n)
    ((rw others at c.put.ensures) ∙ ap (λ (k : ℕ). part n (16 - n) x ++ drop k (zeros 16)) behind) c.put.auto.buffer (omega arith) in
    let all = put_next (take n x) n one (rw first at c.put-2.ensures) (c.put-2.auto.buffer ∙ c.put.auto.buffer) (omega arith) in
    filled_all all (omega arith)
    ∙ ap (λ (l : Octets). l ++ take n x) (take_all (16 - n) (drop n x) (omega (arith, length-drop n x)))
