-- The theorem is not empty: the code's own records and answers of one list of calls. A RAND of zeros is accepted on the cleared store for
-- voice, and repeated; for data the card is asked, and it has seen the challenge; another challenge for voice fails; the first is repeated
-- with any AUTN, and with a card that is not valid; once the store is cleared, the card is asked. Assumes nothing.
use Prim.Native.Nat.{ℕ}
use mathlib.Core.Bool.{true, false}
use mathlib.Core.List.{List, [], ◌∷◌, ◌++◌, map}
use mathlib.Core.Path.{◌≡◌, refl}
use lib.ListN.{length, set}
use Rattle.std.specs.Prelude.{Ok}
use Rattle.octets.specs.Octets.{Octets, zeros, xor, equal, turn_left, digits, spelt}
use Rattle.functions.specs.Sets.{is_set, sets, test_outputs, base_of, outputs, outputs_of}
use Rattle.functions.specs.SampleRun.{k, z, autn, res, ck, ik, auts}
use Rattle.aka.specs.Layout.{all_zero, write_autn, read_autn, write_auts, read_auts, write_answer}
use Rattle.aka.specs.Usim.{challenge, verdict_on, judgement, answer_with, valid_usim, lengths_right, mac_right, fresh, highest}
use Rattle.aka.specs.Usim.{lowest_index}
use Rattle.aka.specs.Usim.{UsimShaped, all_within, make_auts}
use Rattle.aka.specs.Editions.{editions, card_places, is_edition, row_of}
use Rattle.aka.specs.Handset as handset
use Rattle.aka.specs.RepeatedChallenge.{Phone, On, cs, ps, Conclusion}
use Rattle.usim_record.specs.declared.Usim.{Usim}
use Rattle.usim_record.specs.Views.{usim_of}
use Rattle.handset_store.specs.declared.Outcome.{Outcome}
use Rattle.handset_store.specs.declared.Outcome.TheVariants.{Repeated, Accepted, Sync, Mac}
use Rattle.handset.specs.Views.{told_of}
use Rattle.repeated_challenge.specs.Running.{Written, ShownSays, KeepSays, Challenge, Answer, Answered, Ran}
use Rattle.repeated_challenge.specs.Running.{challenging, clearing, Chain, call_on, handled}
use Rattle.repeated_challenge.proofs.Running.{running}

-- the card before its first challenge and after it, and one of no known set
abbrev card_with : (set : ℕ) (places : List ℕ) → Usim
card_with set places = record { edition = 1; keys = record { set = set; k = k; opc = z }; places = places }

abbrev new : Usim
new = card_with 0 (zeros card_places)

abbrev used : Usim
used = card_with 0 (set (zeros card_places) 0 1)

abbrev invalid : Usim
invalid = card_with 7 (zeros card_places)

shaped : (set : ℕ) (places : List ℕ) → length places ≡ card_places → UsimShaped editions (usim_of (card_with set places))
shaped set places size = record { keys = record { k = refl; opc = refl }; places = size }

abbrev answer : Octets
answer = res ++ (ck ++ ik)

-- the challenge of the sample run, lent forty zeros
abbrev sample : Usim → Challenge
sample usim = record { usim = usim; rand = z; autn = autn; fresh = zeros 40 }

abbrev holds : Written
holds = Ok true

abbrev empty : Written
empty = Ok false

-- nothing is written to the fresh octets
abbrev told : Outcome → Usim → (auts shown : Octets) → Written → (stored : Octets) → Answer
told outcome usim auts shown written stored = record {
  told = record { outcome = outcome; usim = usim; auts = auts };
  fresh = zeros 40;
  shown = shown;
  written = written;
  stored = stored;
}

abbrev accepts : Answer
accepts = record {
  told = record { outcome = Accepted; usim = used; auts = zeros 14 };
  fresh = answer;
  shown = answer;
  written = holds;
  stored = z ++ answer;
}

abbrev calls : List (On Ran)
calls =
    record { domain = cs; what = challenging (sample new) accepts }
    ∷ record { domain = cs; what = challenging (sample used) (told Repeated used (zeros 14) answer holds (z ++ answer)) }
    ∷ record { domain = ps; what = challenging (sample used) (told Sync used auts [] empty (zeros 56)) }
    ∷ record {
      domain = cs;
      what = challenging (record { usim = used; rand = 1 ∷ zeros 15; autn = autn; fresh = zeros 40 })
          (told Mac used (zeros 14) [] holds (z ++ answer));
    }
    ∷ record {
      domain = cs;
      what = challenging (record { usim = invalid; rand = z; autn = zeros 16; fresh = zeros 40 })
          (told Repeated invalid (zeros 14) answer holds (z ++ answer));
    }
    ∷ record { domain = cs; what = clearing empty (zeros 56) }
    ∷ record { domain = cs; what = challenging (sample used) (told Sync used auts [] empty (zeros 56)) }
    ∷ []

-- what is to be shown of a challenge
three : {store : handset.Store} {c : Challenge} {a : Answer} → UsimShaped editions (usim_of c.usim)
    → told_of a.told a.fresh ≡ handset.told (handset.challenged editions sets (usim_of c.usim) store c.rand c.autn c.fresh)
    → ShownSays a.told.outcome store c.rand a.fresh a.shown
    → KeepSays a.told.outcome store c.rand a.fresh a.written a.stored → Answered store c a
three shape answer shown keep = record { answer = record { answer_is = answer; shape = shape }; shown = shown; keep = keep }

abbrev phone : Phone
phone = record { voice = handset.cleared; packets = handset.cleared }

chain : Chain phone calls
unfolding Chain is_edition row_of is_set sets test_outputs base_of outputs outputs_of challenge verdict_on judgement answer_with
    valid_usim lengths_right mac_right fresh highest lowest_index all_within all_zero make_auts write_autn read_autn write_auts
    read_auts write_answer xor equal digits spelt turn_left handset.repeats handset.parts_right handset.outcome_on handset.answer_with
    handset.challenged handset.source handset.keep handset.clear
chain = (
  three (shaped 0 _ refl) refl refl refl,
  (
    three (shaped 0 _ refl) refl refl refl,
    (
      three (shaped 0 _ refl) refl refl refl,
      (
        three (shaped 0 _ refl) refl refl refl,
        (three (shaped 7 _ refl) refl refl refl, (refl, (three (shaped 0 _ refl) refl refl refl, tt))),
      ),
    ),
  ),
)

pub ran : Conclusion editions sets phone (handled phone calls) (map call_on calls)
ran = running phone calls chain
