-- `all` of a slice.
use Rattle.std.proofs.Common.{rules, ◌∙◌, sym}
use Rattle.std.proofs.lemmas.Iterator.{YieldsList-from_slice}
use Rattle.std.proofs.lemmas.Iterator.Search.{all_from_yields_List}
use borrow.Author.Tests.{tests}
use lib.Dec.{leb}
use Rattle.usim_record.proofs.OnLists.{within_all}
use Rattle.usim_record.proofs.places.within.Goals as goal

pub returns : goal.returns
returns c =
    all_from_yields_List (λ p. leb p c.args.limit) _ _ _ c.all.ensures.ran (YieldsList-from_slice c.args.places cc)
    (λ x b q k. search (rules, tests))
    ∙ sym (within_all c.args.limit c.args.places)
