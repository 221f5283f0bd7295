-- `all` of what is left of a slice.
use Rattle.std.proofs.Common.{rules, ◌∙◌, sym, drop}
use Rattle.std.proofs.lemmas.Iterator.{YieldsList-from_slice}
use Rattle.std.proofs.lemmas.Iterator.Adapters.{YieldsList-from_skip}
use Rattle.std.proofs.lemmas.Iterator.Search.{all_from_yields_List}
use borrow.Author.Tests.{tests}
use lib.Dec.{eqb}
use Rattle.usim_record.proofs.OnLists.{zero_all}
use Rattle.usim_record.proofs.places.zero_from.Goals as goal

pub returns : goal.returns
returns c =
    all_from_yields_List (λ p. eqb p 0) _ _ _ c.all.ensures.ran
    (YieldsList-from_skip c.args.from (YieldsList-from_slice c.args.places cc) (cc))
    (λ x b q k. search (rules, tests))
    ∙ sym (zero_all (drop c.args.from c.args.places))
