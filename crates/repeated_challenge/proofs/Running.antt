-- A repeated challenge of the running code, from `aka`'s: the answers of the code are those of the definitions. Assumes nothing.
use mathlib.Core.List.{List, [], ◌∷◌, map}
use mathlib.Core.Path.{◌≡◌, refl, sym, ap, ◌∙◌, subst}
use Rattle.functions.specs.Sets.{sets}
use Rattle.functions.proofs.Family.{lawful}
use Rattle.functions.proofs.Protocol.{handset_holds, repeated_challenge_holds}
use Rattle.aka.specs.Editions.{editions}
use Rattle.aka.specs.Demand3.{Each}
use Rattle.aka.specs.Handset.{Store, HandsetAnswer, Told, Written, challenged, in_order}
use Rattle.aka.specs.RepeatedChallenge as aka
use Rattle.usim_record.specs.Views.{usim_of}
use Rattle.handset.specs.Views.{told_of}
use Rattle.repeated_challenge.specs.Running.{Challenge, Answer, Answered, Ran, challenging, clearing, Happened, store_after}
use Rattle.repeated_challenge.specs.Running.{challenge_of, answer_of, handled_of, call_of, call_on, Chain, handled, RepeatedChallenge}

-- the three calls make the whole answer
whole : (store : Store) (c : Challenge) (a : Answer) → Answered store c a
    → answer_of store a ≡ challenged editions sets (usim_of c.usim) store c.rand c.autn c.fresh
whole store c a h =
    let three : answer_of store a ≡ in_order (told_of a.told a.fresh) store c.rand =
    rw (h.shown, ap (λ (x : Written). x.store) h.keep) refl in
    three
    ∙ ap (λ (t : Told). in_order t store c.rand) h.answer.answer_is
    ∙ handset_holds.in_order_lem lawful (usim_of c.usim) h.answer.shape.keys store c.rand c.autn c.fresh

-- one call: what was handled, and the store that it left
same_call : (store : Store) (x : Ran) → Happened store x → handled_of store x ≡ aka.handle editions sets store (call_of x)
same_call store (challenging c a) h = ap (λ (w : HandsetAnswer). aka.answered (challenge_of c) store w) (whole store c a h)
same_call store (clearing written stored) h = ap (λ (w : Written). aka.cleared store w) h

same_store : (store : Store) (x : Ran) → store_after store x ≡ aka.store_after (handled_of store x)
same_store store (challenging c a) = refl
same_store store (clearing written stored) = refl

card_shaped : (store : Store) (x : Ran) → Happened store x → aka.CardShaped (call_of x)
card_shaped store (challenging c a) h = h.answer.shape.keys
card_shaped store (clearing written stored) h = tt

-- a list of calls
same_answers : (phone : aka.Phone) (calls : List (aka.On Ran)) → Chain phone calls
    → handled phone calls ≡ aka.together editions sets phone (map call_on calls)
unfolding Chain handled aka.together
same_answers phone [] chain = refl
same_answers phone (x ∷ rest) chain =
    let d = x.domain in
    let store = aka.store_in d phone in
    let here = handled_of store x.what in
    let behind : Store → List (aka.On aka.Handled) = λ s. aka.together editions sets (aka.with_store d s phone) (map call_on rest) in
    ap (λ (l : List (aka.On aka.Handled)). record { domain = d; what = here } ∷ l)
    (same_answers (aka.with_store d (store_after store x.what) phone) rest chain.1 ∙ ap behind (same_store store x.what))
    ∙ ap (λ (h : aka.Handled). record { domain = d; what = h } ∷ behind (aka.store_after h)) (same_call store x.what chain.0)

all_shaped : (phone : aka.Phone) (calls : List (aka.On Ran)) → Chain phone calls
    → Each (λ y. aka.CardShaped y.what) (map call_on calls)
unfolding Chain
all_shaped phone [] chain = tt
all_shaped phone (x ∷ rest) chain = (
  card_shaped (aka.store_in x.domain phone) x.what chain.0,
  all_shaped (aka.with_store x.domain (store_after (aka.store_in x.domain phone) x.what) phone) rest chain.1,
)

pub running : RepeatedChallenge
running phone calls chain =
    subst (λ (l : List (aka.On aka.Handled)). aka.Conclusion editions sets phone l (map call_on calls))
    (sym (same_answers phone calls chain))
    (repeated_challenge_holds phone (map call_on calls) (all_shaped phone calls chain))
