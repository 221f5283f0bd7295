-- `fold` of a slice.
use Rattle.std.proofs.Common.{rules, ◌∙◌, sym}
use Prim.Native.Nat.{max}
use Rattle.std.proofs.lemmas.Iterator.{YieldsList-from_slice}
use Rattle.std.proofs.lemmas.Iterator.Consumers.{fold_from_yields_List}
use borrow.Author.Tests.{tests}
use Rattle.usim_record.proofs.OnLists.{highest_fold}
use Rattle.usim_record.proofs.places.highest.Goals as goal

pub returns : goal.returns
returns c =
    fold_from_yields_List _ max 0 _ c.fold.ensures.ran (YieldsList-from_slice c.args.places cc) (λ a x b q k. search (rules, tests))
    ∙ sym (highest_fold c.args.places)
