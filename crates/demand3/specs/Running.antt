-- Demand 3 of the running code. `aka` states it of the definitions; here it names the records that `usim::challenge` and
-- `auc::resynchronise` take and return, for the editions and the function sets that they use. Assumes nothing.
use Rattle.std.specs.Prelude.{ℕ, List, [], ◌∷◌, ◌⊎◌, ◌≡◌}
use Rattle.std.proofs.Math.Option.{Option, none}
use Rattle.octets.specs.Octets.{Octets}
use Rattle.functions.specs.Sets.{sets}
use Rattle.functions.specs.Challenge.{keys_of}
use Rattle.aka.specs.Auc.{kept, reset, resync_count}
use Rattle.aka.specs.Demand3 as aka
use Rattle.aka.specs.Sequence.{width_of}
use Rattle.aka.specs.Editions.{editions}
use Rattle.usim_record.specs.declared.Usim.{Usim}
use Rattle.usim_record.specs.declared.Answer as card
use Rattle.usim_record.specs.Views as card_views
use Rattle.auc_record.specs.declared.Auc.{Auc}
use Rattle.auc_record.specs.declared.Answer as centre
use Rattle.auc_record.specs.Views as centre_views
use Rattle.runs.specs.Promises.{Answered, Resynchronised}
use Rattle.runs.specs.Calls.{Call, Chain, call_of}

-- a card, a challenge to it and its answer; a centre, what is lent to its resynchronisation, and its answer
pub record Setting : Type 0 where
  pub usim : Usim
  pub rand : Octets
  pub autn : Octets
  pub failure : card.Answer
  pub auc : Auc
  pub count : ℕ
  pub rands : Octets
  pub buffer : Octets
  pub resynced : centre.Answer
  pub batch : Octets  -- what the buffer holds at the end

-- the records as the protocol has them
abbrev pub setting_of : Setting → aka.Setting
setting_of s = record {
  usim = card_views.usim_of s.usim;
  rand = s.rand;
  autn = s.autn;
  auc = centre_views.auc_of s.auc;
  count = s.count;
  rands = s.rands;
  buffer = s.buffer;
}

-- the failure's RAND and AUTS reach the centre unaltered
pub record Ran (s : Setting) : Type 0 where
  pub failure : Answered s.usim s.rand s.autn s.failure
  pub resynced : Resynchronised s.auc s.count s.rands s.buffer s.rand s.failure.auts s.resynced s.batch

-- the calls with what they are counted as (`aka` `Demand3.place_of`) and what the card answered
module _ (batch : Octets) (n : ℕ) where
  unfoldable pub counted : (last : Option ℕ) → List Call → List aka.AnsweredCall
  counted last [] = []
  counted last (call ∷ rest) =
      record {
        place = aka.place_of batch n last (call_of call);
        last = aka.latest (aka.place_of batch n last (call_of call)) last;
        answer = card_views.answer_of call.answer;
      }
      ∷ counted (aka.latest (aka.place_of batch n last (call_of call)) last) rest

module _ (s : Setting) where
  abbrev pub answered : List Call → List aka.AnsweredCall
  answered calls = counted s.batch (resync_count s.count) none calls

  pub record Conclusion : Type 0 where
    -- the centre sends a batch
    pub sent : (centre_views.outcome_of s.resynced.outcome ≡ kept) ⊎ (centre_views.outcome_of s.resynced.outcome ≡ reset)
    -- for every list of calls that starts from the record that the failure left, each other call not being accepted:
    -- each call of the batch is accepted with its vector's XRES, CK and IK, SEQ_MS is its SEQ, and SEQ_HE is ahead as `aka`
    -- `Demand3.Promised` says
    pub all : (calls : List Call) → Chain s.failure.usim calls → aka.Each aka.OtherNotAccepted (answered calls)
        → aka.Each
        (aka.Promised (width_of editions s.usim.edition) (sets.under (keys_of s.usim.keys)) s.batch
        (resync_count s.count) s.resynced.auc.seqhe)
        (answered calls)

-- `aka.Premise`: valid records of the same edition and keys, count and lent parts as named, room, and a synchronisation failure
abbrev pub Demand3 : Type 0
Demand3 = (s : Setting) → Ran s → aka.Premise editions sets (setting_of s) → Conclusion s
