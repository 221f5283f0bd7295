-- What the contracts of `usim::challenge`, `auc::order` and `auc::resynchronise` say of an answer is what `Promises` takes of it: a
-- contract that said less would be refused here. Assumes nothing.
use contract.Lifetimes.{Lfts}
use borrow.Fn.Kinds.{ended_of}
use borrow.Fn.World.{ArgsD, ResD}
use denote.Triple.Clauses.{AtExit}
use Rattle.usim.specs.contracts.challenge as challenge
use Rattle.usim.proofs.challenge.Kinds as challenge_kinds
use Rattle.usim.proofs.challenge.Reads as challenge_reads
use Rattle.auc.specs.contracts.order as order
use Rattle.auc.proofs.order.Kinds as order_kinds
use Rattle.auc.proofs.order.Reads as order_reads
use Rattle.auc.specs.contracts.resynchronise as resynchronise
use Rattle.auc.proofs.resynchronise.Kinds as resynchronise_kinds
use Rattle.auc.proofs.resynchronise.Reads as resynchronise_reads
use Rattle.octets.specs.Octets.{Octets}
use Rattle.runs.specs.Promises.{Answered, Ordered, Resynchronised}

pub card : (κs : Lfts 2) (a : ArgsD challenge.signature κs) (answer : ResD challenge.signature κs)
    (s : AtExit (ended_of 2 challenge_kinds.ps challenge_kinds.r) κs)
    → challenge_reads.Post κs a answer s → Answered a.0 a.1.0.now a.1.1.0.now answer
card κs a answer s p = record { answer_is = p.0; sqn_told = p.1.0; shape = p.1.1 }

-- the arguments of an order: the record, the count, the RANDs and the buffer
pub ordering : (κs : Lfts 2) (a : ArgsD order.signature κs) (answer : ResD order.signature κs)
    (s : AtExit (ended_of 2 order_kinds.ps order_kinds.r) κs)
    → order_reads.Post κs a answer s
    → Ordered a.0 a.1.0 a.1.1.0.now a.1.1.1.0.now answer s.1.1.1.0.now
ordering κs a answer s p = record { answer_is = p.0; shape = p.1 }

-- those of a resynchronisation: the record, the count, RAND, AUTS, the RANDs and the buffer
module _ (κs : Lfts 4) (a : ArgsD resynchronise.signature κs) where
  abbrev rand : Octets
  rand = a.1.1.0.now

  abbrev auts : Octets
  auts = a.1.1.1.0.now

  abbrev rands : Octets
  rands = a.1.1.1.1.0.now

  abbrev buffer : Octets
  buffer = a.1.1.1.1.1.0.now

  pub centre : (answer : ResD resynchronise.signature κs) (s : AtExit (ended_of 4 resynchronise_kinds.ps resynchronise_kinds.r) κs)
      → resynchronise_reads.Post κs a answer s
      → Resynchronised a.0 a.1.0 rands buffer rand auts answer s.1.1.1.1.1.0.now
  centre answer s p = record { answer_is = p.0; shape = p.1 }
