-- The theorem is not empty: the code's own records and answers of one list of calls. A vector and a triplet are stored; the vector is
-- asked, asked again and answered rightly; the triplet is asked, Sync on it is refused, and it is answered rightly; a second vector is
-- asked and its AUTS handed on; a second triplet comes in its place. Assumes nothing.
use Prim.Native.Nat.{ℕ, ◌*◌}
use mathlib.Core.List.{List, [], ◌∷◌, ◌++◌, map}
use mathlib.Core.Path.{refl}
use lib.ListN.{replicate}
use Rattle.octets.specs.Octets.{Octets, zeros, equal}
use Rattle.aka.specs.Layout.{vector, triplet, write_vector, read_vector, write_triplet, read_triplet, joined}
use Rattle.aka.specs.Vlr.{place_size, placed, vector_run, triplet_run, good_place, good_places, all_zero, valid_vlr, count_fits, batch_fits}
use Rattle.aka.specs.Vlr.{refusal_or, unless_refused, queued, oldest_out, none_out, request, store_refusal, ask_refusal}
use Rattle.aka.specs.Vlr.{asked_refusal, res_right}
use Rattle.aka.specs.Vlr.{pass_if, sync_refusal, resync_request, renew_refusal}
use Rattle.aka.specs.Vlr as node
use Rattle.aka.specs.Calls.{store, renew, ask, again, answer, sync}
use Rattle.aka.specs.OrderOfUse.{InOrder, nothing_yet}
use Rattle.aka.proofs.VlrWitnesses.{a_vector, one, a_triplet, one_triplet}
use Rattle.vlr_record.specs.declared.Vlr.{Vlr}
use Rattle.vlr_record.specs.declared.Reply.{Reply}
use Rattle.vlr_record.specs.declared.State.{State}
use Rattle.vlr_record.specs.declared.State.TheVariants.{Idle, Asked, Resyncing}
use Rattle.vlr_record.specs.declared.Outcome.{Outcome}
use Rattle.vlr_record.specs.declared.Outcome.TheVariants.{Done, Passed, Refused}
use Rattle.order_of_use.specs.Running.{New, Ran, Chain, handled_of}
use Rattle.order_of_use.proofs.Running.{running}

-- a record that holds these places
abbrev record_with : State → (held : ℕ) (places : Octets) (left : ℕ) (out : Octets) → Vlr
record_with state held places left out = record { state = state; held = held; queue = places ++ zeros (place_size * left); out = out }

abbrev none : Octets
none = zeros place_size

abbrev first : Octets
first = placed vector (one 1)

abbrev second : Octets
second = placed triplet (one_triplet 2)

abbrev third : Octets
third = placed vector (one 3)

abbrev answered : Outcome → Vlr → (rand autn auts ck ik kc : Octets) → Reply
answered outcome vlr rand autn auts ck ik kc = record {
  outcome = outcome;
  vlr = vlr;
  rand = rand;
  autn = autn;
  auts = auts;
  ck = ck;
  ik = ik;
  kc = kc;
}

abbrev silent : Outcome → Vlr → Reply
silent outcome vlr = answered outcome vlr (zeros 16) (zeros 16) (zeros 14) (zeros 16) (zeros 16) (zeros 8)

abbrev asks : (rand autn : Octets) → Vlr → Reply
asks rand autn vlr = answered Done vlr rand autn (zeros 14) (zeros 16) (zeros 16) (zeros 8)

abbrev passes : (ck ik kc : Octets) → Vlr → Reply
passes ck ik kc vlr = answered Passed vlr (zeros 16) (zeros 16) (zeros 14) ck ik kc

abbrev auts : Octets
auts = replicate 14 9

abbrev fresh : Vlr
fresh = record_with Idle 0 [] 16 none

abbrev first_out : Vlr
first_out = record_with Asked 2 (second ++ third) 14 first

abbrev second_out : Vlr
second_out = record_with Asked 1 third 15 second

abbrev third_out : Vlr
third_out = record_with Asked 0 [] 16 third

abbrev failed : Vlr
failed = record_with Resyncing 0 [] 16 none

abbrev calls : List Ran
calls =
    record { call = ask; answer = silent (Refused 8) fresh }
    ∷ record { call = store vector 1 (one 1); answer = silent Done (record_with Idle 1 first 15 none) }
    ∷ record { call = store triplet 1 (one_triplet 2); answer = silent Done (record_with Idle 2 (first ++ second) 14 none) }
    ∷ record { call = store vector 1 (one 3); answer = silent Done (record_with Idle 3 (first ++ second ++ third) 13 none) }
    ∷ record { call = ask; answer = asks (a_vector 1).rand (a_vector 1).autn first_out }
    ∷ record { call = again; answer = asks (a_vector 1).rand (a_vector 1).autn first_out }
    ∷ record {
      call = answer (a_vector 1).xres;
      answer = passes (a_vector 1).ck (a_vector 1).ik (zeros 8) (record_with Idle 2 (second ++ third) 14 none);
    }
    ∷ record { call = ask; answer = asks (a_triplet 2).rand (zeros 16) second_out }
    ∷ record { call = sync auts; answer = silent (Refused 7) second_out }
    ∷ record {
      call = answer (a_triplet 2).sres;
      answer = passes (zeros 16) (zeros 16) (a_triplet 2).kc (record_with Idle 1 third 15 none);
    }
    ∷ record { call = ask; answer = asks (a_vector 3).rand (a_vector 3).autn third_out }
    ∷ record {
      call = sync auts;
      answer = answered Done failed (a_vector 3).rand (zeros 16) auts (zeros 16) (zeros 16) (zeros 8);
    }
    ∷ record { call = ask; answer = silent (Refused 7) failed }
    ∷ record {
      call = renew triplet 1 (one_triplet 4);
      answer = silent Done (record_with Idle 1 (placed triplet (one_triplet 4)) 15 none);
    }
    ∷ []

new : New fresh
new = refl

chain : Chain fresh calls
unfolding Chain node.store node.renew node.ask node.again node.answer node.sync store_refusal ask_refusal asked_refusal sync_refusal
    renew_refusal unless_refused refusal_or valid_vlr good_place good_places all_zero count_fits batch_fits queued oldest_out none_out
    request res_right pass_if resync_request equal vector_run triplet_run read_vector write_vector read_triplet write_triplet joined
chain = (
  refl,
  (refl, (refl, (refl, (refl, (refl, (refl, (refl, (refl, (refl, (refl, (refl, (refl, (refl, tt))))))))))))),
)

pub ran : InOrder nothing_yet (map handled_of calls)
ran = running fresh new calls chain
