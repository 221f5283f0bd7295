-- Demand 3 of the running code, from `aka`'s: the answers of the code are those of the definitions. Assumes nothing.
use Prim.Native.Nat.{ℕ}
use mathlib.Core.List.{List, [], ◌∷◌, map}
use mathlib.Core.Logic.{◌⊎◌}
use mathlib.Core.Option.{Option, none}
use mathlib.Core.Path.{◌≡◌, refl, sym, ap, ◌∙◌, subst}
use Rattle.octets.specs.Octets.{Octets}
use Rattle.functions.specs.Sets.{sets}
use Rattle.functions.specs.Challenge.{keys_of}
use Rattle.functions.proofs.Protocol.{demand3_holds}
use Rattle.aka.specs.Functions.{Functions}
use Rattle.aka.specs.Auc.{AucAnswer, kept, reset, resync_count, resync}
use Rattle.aka.specs.Usim as usim
use Rattle.aka.specs.Demand3 as aka
use Rattle.aka.specs.Sequence.{width_of}
use Rattle.aka.specs.Editions.{editions}
use Rattle.usim_record.specs.declared.Usim.{Usim}
use Rattle.usim_record.specs.Views as card_views
use Rattle.auc_record.specs.Views as centre_views
use Rattle.runs.specs.Calls.{Call, Chain, call_of}
use Rattle.demand3.specs.Running.{Setting, Ran, counted, setting_of, Conclusion, Demand3}

-- the answers of the code are those of the definitions
same_answers : (batch : Octets) (n : ℕ) (u : Usim) (last : Option ℕ) (calls : List Call) → Chain u calls
    → counted batch n last calls ≡ aka.answers_to editions sets batch n (card_views.usim_of u) last (map call_of calls)
unfolding Chain counted aka.answers_to
same_answers batch n u last [] c = refl
same_answers batch n u last (call ∷ rest) c =
    let place = aka.place_of batch n last (call_of call) in
    let now = aka.latest place last in
    ap (λ (l : List aka.AnsweredCall). record { place = place; last = now; answer = card_views.answer_of call.answer } ∷ l)
    (same_answers batch n call.answer.usim now rest c.1)
    ∙ ap
    (λ (x : usim.UsimAnswer).
    record { place = place; last = now; answer = x } ∷ aka.answers_to editions sets batch n x.usim now (map call_of rest))
    c.0.answer_is

-- what `aka` concludes, of any two answers
pub record Of (w : ℕ) (F : Functions) (n : ℕ) (failure : usim.UsimAnswer) (resynced : AucAnswer) : Type 0 where
  pub sent : (resynced.outcome ≡ kept) ⊎ (resynced.outcome ≡ reset)
  pub all : (calls : List aka.Call)
      → aka.Each aka.OtherNotAccepted (aka.answers_to editions sets resynced.batch n failure.usim none calls)
      → aka.Each (aka.Promised w F resynced.batch n resynced.auc.seqhe)
      (aka.answers_to editions sets resynced.batch n failure.usim none calls)

module _ (s : Setting) (ran : Ran s) (p : aka.Premise editions sets (setting_of s)) where
  abbrev w : ℕ
  w = width_of editions s.usim.edition

  abbrev F : Functions
  F = sets.under (keys_of s.usim.keys)

  abbrev n : ℕ
  n = resync_count s.count

  abbrev failure : usim.UsimAnswer
  failure = card_views.answer_of s.failure

  -- the centre's answer to an AUTS
  abbrev from_auts : Octets → AucAnswer
  from_auts auts = resync editions sets (centre_views.auc_of s.auc) s.count s.rands s.buffer s.rand auts

  -- the types of the code have seen to it
  shapes : aka.Shapes editions (setting_of s)
  shapes = record { usim = ran.failure.shape; auc = ran.resynced.shape }

  of_definitions : Of w F n (aka.failure editions sets (setting_of s)) (aka.resynced editions sets (setting_of s))
  of_definitions = let c = demand3_holds (setting_of s) shapes p in record { sent = c.sent; all = c.all }

  -- and so of the code's own answers
  of_code : Of w F n failure (centre_views.answer_of s.resynced s.batch)
  of_code =
      subst (λ (r : AucAnswer). Of w F n failure r) (sym ran.resynced.answer_is)
      (subst (λ (x : usim.UsimAnswer). Of w F n x (from_auts x.auts)) (sym ran.failure.answer_is) of_definitions)

  conclusion : Conclusion s
  conclusion =
      let Promised = aka.Promised w F s.batch n s.resynced.auc.seqhe in
      record {
        sent = of_code.sent;
        all = λ calls chain other.
            let e = same_answers s.batch n s.failure.usim none calls chain in
            subst (λ (l : List aka.AnsweredCall). aka.Each Promised l) (sym e)
            (of_code.all (map call_of calls)
            (subst (λ (l : List aka.AnsweredCall). aka.Each aka.OtherNotAccepted l) e other));
      }

pub running : Demand3
running = conclusion
