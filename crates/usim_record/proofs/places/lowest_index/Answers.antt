-- `position` in a slice.
use Rattle.std.proofs.Common.{◌≡◌, rules, length}
use Rattle.std.proofs.lemmas.Iterator.{YieldsList-from_slice}
use Rattle.std.proofs.lemmas.Iterator.Search.{position_from_yields_List}
use borrow.Author.Tests.{tests}
use lib.Dec.{eqb}
use Rattle.aka.specs.Editions.{card_places}
use Rattle.usim_record.proofs.OnLists.{lowest_found}
use Rattle.usim_record.proofs.places.lowest_index.Goals as goal

pub returns : goal.returns
returns c =
    let places = c.args.places in
    let size : length places ≡ card_places = search rules in
    let found =
    lowest_found c.args.seq places
    (position_from_yields_List (λ p. eqb p c.args.seq) _ _ c.position.result c.position.ensures.ran (YieldsList-from_slice places cc)
    (λ x b q k. search (rules, tests))) in
    rw c.unwrap_or.ensures (rw size at found)
