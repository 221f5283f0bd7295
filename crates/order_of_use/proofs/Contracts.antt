-- What the contracts of `vlr`'s nine operations, and of `new`, say is what `Running` takes of them: a contract that said less would be
-- refused here. Assumes nothing.
use contract.Lifetimes.{Lfts}
use borrow.Fn.Kinds.{ended_of}
use borrow.Fn.World.{ArgsD, ResD}
use denote.Triple.Clauses.{AtExit}
use Rattle.aka.specs.Calls as calls
use Rattle.vlr_places.specs.Views.{kind_of}
use Rattle.vlr_record.specs.contracts.new as new
use Rattle.vlr_record.proofs.new.Kinds as new_kinds
use Rattle.vlr_record.proofs.new.Reads as new_reads
use Rattle.vlr.specs.contracts.store as store
use Rattle.vlr.proofs.store.Kinds as store_kinds
use Rattle.vlr.proofs.store.Reads as store_reads
use Rattle.vlr.specs.contracts.renew as renew
use Rattle.vlr.proofs.renew.Kinds as renew_kinds
use Rattle.vlr.proofs.renew.Reads as renew_reads
use Rattle.vlr.specs.contracts.ask as ask
use Rattle.vlr.proofs.ask.Kinds as ask_kinds
use Rattle.vlr.proofs.ask.Reads as ask_reads
use Rattle.vlr.specs.contracts.again as again
use Rattle.vlr.proofs.again.Kinds as again_kinds
use Rattle.vlr.proofs.again.Reads as again_reads
use Rattle.vlr.specs.contracts.answer as answer
use Rattle.vlr.proofs.answer.Kinds as answer_kinds
use Rattle.vlr.proofs.answer.Reads as answer_reads
use Rattle.vlr.specs.contracts.sync as sync
use Rattle.vlr.proofs.sync.Kinds as sync_kinds
use Rattle.vlr.proofs.sync.Reads as sync_reads
use Rattle.vlr.specs.contracts.reject as reject
use Rattle.vlr.proofs.reject.Kinds as reject_kinds
use Rattle.vlr.proofs.reject.Reads as reject_reads
use Rattle.vlr.specs.contracts.timeout as timeout
use Rattle.vlr.proofs.timeout.Kinds as timeout_kinds
use Rattle.vlr.proofs.timeout.Reads as timeout_reads
use Rattle.vlr.specs.contracts.abandon as abandon
use Rattle.vlr.proofs.abandon.Kinds as abandon_kinds
use Rattle.vlr.proofs.abandon.Reads as abandon_reads
use Rattle.order_of_use.specs.Running.{New, Answered}

pub begins : (κs : Lfts 0) (a : ArgsD new.signature κs) (vlr : ResD new.signature κs)
    (s : AtExit (ended_of 0 new_kinds.ps new_kinds.r) κs) → new_reads.Post κs a vlr s → New vlr
begins κs a vlr s p = p

pub stores : (κs : Lfts 1) (a : ArgsD store.signature κs) (r : ResD store.signature κs)
    (s : AtExit (ended_of 1 store_kinds.ps store_kinds.r) κs) → store_reads.Post κs a r s
    → Answered a.0 (calls.store (kind_of a.1.0) a.1.1.0 a.1.1.1.0.now) r
stores κs a r s p = p

pub renews : (κs : Lfts 1) (a : ArgsD renew.signature κs) (r : ResD renew.signature κs)
    (s : AtExit (ended_of 1 renew_kinds.ps renew_kinds.r) κs) → renew_reads.Post κs a r s
    → Answered a.0 (calls.renew (kind_of a.1.0) a.1.1.0 a.1.1.1.0.now) r
renews κs a r s p = p

pub asks : (κs : Lfts 0) (a : ArgsD ask.signature κs) (r : ResD ask.signature κs)
    (s : AtExit (ended_of 0 ask_kinds.ps ask_kinds.r) κs) → ask_reads.Post κs a r s → Answered a.0 calls.ask r
asks κs a r s p = p

pub asks_again : (κs : Lfts 0) (a : ArgsD again.signature κs) (r : ResD again.signature κs)
    (s : AtExit (ended_of 0 again_kinds.ps again_kinds.r) κs) → again_reads.Post κs a r s → Answered a.0 calls.again r
asks_again κs a r s p = p

pub answers : (κs : Lfts 1) (a : ArgsD answer.signature κs) (r : ResD answer.signature κs)
    (s : AtExit (ended_of 1 answer_kinds.ps answer_kinds.r) κs) → answer_reads.Post κs a r s → Answered a.0 (calls.answer a.1.0.now) r
answers κs a r s p = p

pub syncs : (κs : Lfts 1) (a : ArgsD sync.signature κs) (r : ResD sync.signature κs)
    (s : AtExit (ended_of 1 sync_kinds.ps sync_kinds.r) κs) → sync_reads.Post κs a r s → Answered a.0 (calls.sync a.1.0.now) r
syncs κs a r s p = p

pub rejects : (κs : Lfts 0) (a : ArgsD reject.signature κs) (r : ResD reject.signature κs)
    (s : AtExit (ended_of 0 reject_kinds.ps reject_kinds.r) κs) → reject_reads.Post κs a r s → Answered a.0 calls.reject r
rejects κs a r s p = p

pub times_out : (κs : Lfts 0) (a : ArgsD timeout.signature κs) (r : ResD timeout.signature κs)
    (s : AtExit (ended_of 0 timeout_kinds.ps timeout_kinds.r) κs) → timeout_reads.Post κs a r s → Answered a.0 calls.timeout r
times_out κs a r s p = p

pub abandons : (κs : Lfts 0) (a : ArgsD abandon.signature κs) (r : ResD abandon.signature κs)
    (s : AtExit (ended_of 0 abandon_kinds.ps abandon_kinds.r) κs) → abandon_reads.Post κs a r s → Answered a.0 calls.abandon r
abandons κs a r s p = p
