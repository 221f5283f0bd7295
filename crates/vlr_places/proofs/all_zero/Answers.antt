-- `all_zero`: the octets are folded by or.
use Rattle.std.proofs.Common.{ℕ, ◌≡◌, ◌&&◌, ◌∷◌, [], List, sym, ap, ◌∙◌, rules, tests, fold}
use Rattle.std.proofs.lemmas.Iterator.{YieldsList-from_slice}
use Rattle.std.proofs.lemmas.Iterator.Consumers.{fold_from_yields_List}
use mathlib.Core.Bool.{and_assoc, and-true}
use lib.Bits.{bit_or}
use lib.Dec.{eqb}
use Rattle.octets.proofs.Or.{both_zero}
use Rattle.aka.specs.Vlr.{all_zero}
use Rattle.vlr_places.proofs.all_zero.Goals as goal

folded : (found : ℕ) (x : List ℕ) → eqb (fold bit_or found x) 0 ≡ (eqb found 0 && all_zero x)
unfolding all_zero
folded found [] = sym (and-true _)
folded found (a ∷ x) = folded (bit_or found a) x ∙ rw (both_zero found a) (and_assoc (eqb found 0) (eqb a 0) (all_zero x))

pub returns : goal.returns
returns c =
    let x = c.args.x.now in
    let all = fold_from_yields_List _ bit_or 0 c.fold.result c.fold.ensures.ran (YieldsList-from_slice x cc)
    (λ a y b q k. search (rules, tests)) in
    ap (λ (n : ℕ). eqb n 0) all ∙ folded 0 x
