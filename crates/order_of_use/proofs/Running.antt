-- The order of use of the running code, from `aka`'s: the answers of the code are those of the definitions. Assumes nothing.
use mathlib.Core.List.{List, [], ◌∷◌, map}
use mathlib.Core.Path.{◌≡◌, refl, sym, ap, ◌∙◌, subst}
use Rattle.aka.specs.Vlr.{VlrAnswer}
use Rattle.aka.specs.Vlr as node
use Rattle.aka.specs.Calls.{Call, reply}
use Rattle.aka.specs.OrderOfUse.{Handled, InOrder, nothing_yet, answers}
use Rattle.aka.proofs.OrderOfUse.{order_of_use}
use Rattle.vlr_record.specs.declared.Vlr.{Vlr}
use Rattle.vlr_record.specs.Views.{vlr_of}
use Rattle.order_of_use.specs.Running.{Ran, Chain, handled_of, OrderOfUse}

abbrev call_of : Ran → Call
call_of r = r.call

same_answers : (vlr : Vlr) (calls : List Ran) → Chain vlr calls → map handled_of calls ≡ answers reply (vlr_of vlr) (map call_of calls)
unfolding Chain answers
same_answers vlr [] c = refl
same_answers vlr (r ∷ rest) c =
    ap (λ (l : List Handled). handled_of r ∷ l) (same_answers r.answer.vlr rest c.1)
    ∙ ap (λ (a : VlrAnswer). record { call = r.call; answer = a } ∷ answers reply a.vlr (map call_of rest)) c.0

pub running : OrderOfUse
running vlr new calls chain =
    subst (λ (l : List Handled). InOrder nothing_yet l) (sym (same_answers vlr calls chain))
    (subst (λ (v : node.Vlr). InOrder nothing_yet (answers reply v (map call_of calls))) (sym new) (order_of_use (map call_of calls)))
