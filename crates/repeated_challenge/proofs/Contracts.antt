-- What the contracts of `handset::answer`, `shown`, `keep` and `clear` say is what `Running` takes of them: a contract that said less would
-- be refused here. Assumes nothing.
use contract.Lifetimes.{Lfts}
use borrow.Fn.Kinds.{ended_of}
use borrow.Fn.World.{ArgsD, ResD}
use denote.Triple.Clauses.{AtExit}
use Rattle.aka.specs.Handset.{Store}
use Rattle.handset.specs.contracts.answer as answer
use Rattle.handset.proofs.answer.Kinds as answer_kinds
use Rattle.handset.proofs.answer.Reads as answer_reads
use Rattle.handset_store.specs.contracts.shown as shown
use Rattle.handset_store.proofs.shown.Kinds as shown_kinds
use Rattle.handset_store.proofs.shown.Reads as shown_reads
use Rattle.handset_store.specs.contracts.keep as keep
use Rattle.handset_store.proofs.keep.Kinds as keep_kinds
use Rattle.handset_store.proofs.keep.Reads as keep_reads
use Rattle.handset_store.specs.contracts.clear as clear
use Rattle.handset_store.proofs.clear.Kinds as clear_kinds
use Rattle.handset_store.proofs.clear.Reads as clear_reads
use Rattle.handset_store.specs.Views.{store_of}
use Rattle.repeated_challenge.specs.Running.{AnswerSays, ShownSays, KeepSays, ClearSays}

-- its arguments: the card, the mark, the stored octets, RAND, AUTN and the fresh octets
module _ (κs : Lfts 4) (a : ArgsD answer.signature κs) where
  abbrev store : Store
  store = store_of a.1.0 a.1.1.0.now

  pub answers : (r : ResD answer.signature κs) (s : AtExit (ended_of 4 answer_kinds.ps answer_kinds.r) κs) → answer_reads.Post κs a r s
      → AnswerSays a.0 store a.1.1.1.0.now a.1.1.1.1.0.now a.1.1.1.1.1.0.now r s.1.1.1.1.1.0.now
  answers r s p = record { answer_is = p.0; shape = p.1 }

-- the outcome, the mark, the stored octets, RAND and the fresh octets
pub shows : (κs : Lfts 2) (a : ArgsD shown.signature κs) (r : ResD shown.signature κs)
    (s : AtExit (ended_of 2 shown_kinds.ps shown_kinds.r) κs) → shown_reads.Post κs a r s
    → ShownSays a.0 (store_of a.1.0 a.1.1.0.now) a.1.1.1.0.now a.1.1.1.1.0.now r.now
shows κs a r s p = p.0

-- likewise
pub keeps : (κs : Lfts 3) (a : ArgsD keep.signature κs) (r : ResD keep.signature κs)
    (s : AtExit (ended_of 3 keep_kinds.ps keep_kinds.r) κs) → keep_reads.Post κs a r s
    → KeepSays a.0 (store_of a.1.0 a.1.1.0.now) a.1.1.1.0.now a.1.1.1.1.0.now r s.1.1.0.now
keeps κs a r s p = p

-- the mark and the stored octets
pub clears : (κs : Lfts 1) (a : ArgsD clear.signature κs) (r : ResD clear.signature κs)
    (s : AtExit (ended_of 1 clear_kinds.ps clear_kinds.r) κs) → clear_reads.Post κs a r s
    → ClearSays (store_of a.0 a.1.0.now) r s.1.0.now
clears κs a r s p = p
