-- The order of use at the node, of the running code: each vector and each triplet once, all in the order received; only an unanswered
-- request is repeated. `aka` states it of the definitions; here it names the records that the nine operations of `vlr` take and return.
-- Assumes nothing.
use Rattle.std.specs.Prelude.{List, [], ◌∷◌, map, ◌≡◌}
use Rattle.aka.specs.Vlr.{new_vlr}
use Rattle.aka.specs.Calls.{Call, reply}
use Rattle.aka.specs.OrderOfUse.{Handled, InOrder, nothing_yet}
use Rattle.vlr_record.specs.declared.Vlr.{Vlr}
use Rattle.vlr_record.specs.declared.Reply.{Reply}
use Rattle.vlr_record.specs.Views.{vlr_of, answer_of}

-- what the contract of `vlr::new` says of the record that it makes
abbrev pub New : Vlr → Type 0
New vlr = vlr_of vlr ≡ new_vlr

-- what the contracts of the nine operations say of an answer
abbrev pub Answered : Vlr → Call → Reply → Type 0
Answered vlr call answer = answer_of answer ≡ reply (vlr_of vlr) call

-- a call and the answer that came
pub record Ran : Type 0 where
  pub call : Call
  pub answer : Reply

-- each call gets the record that the one before returned
unfoldable pub Chain : Vlr → List Ran → Type 0
Chain vlr [] = Unit {0}
Chain vlr (r ∷ rest) = Answered vlr r.call r.answer × Chain r.answer.vlr rest

-- as the protocol has them
abbrev pub handled_of : Ran → Handled
handled_of r = record { call = r.call; answer = answer_of r.answer }

-- for every list of calls of a new node: `aka` `OrderOfUse.InOrder` says what is promised of each
abbrev pub OrderOfUse : Type 0
OrderOfUse = (vlr : Vlr) → New vlr → (calls : List Ran) → Chain vlr calls → InOrder nothing_yet (map handled_of calls)
