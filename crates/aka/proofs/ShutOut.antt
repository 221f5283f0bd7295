-- Nodes that the statement of the order of use shuts out by itself, whatever else they do. Assumes nothing.
use mathlib.Core.Bool.{Bool, true, false, false≢true}
use mathlib.Core.List.{List, [], ◌∷◌}
use mathlib.Core.Logic.{inl}
use mathlib.Core.Path.{◌≡◌, refl, sym, ap, ◌∙◌}
use native.Mathlib.Omega.{arith}
use Rattle.octets.specs.Octets.{Octets, zeros}
use Rattle.aka.specs.Layout.{vector, vector_size}
use Rattle.aka.specs.Vlr.{Vlr, VlrAnswer, new_vlr}
use Rattle.aka.specs.Calls.{Call, reply, store, renew, ask, again, answer, sync, reject, timeout, abandon}
use Rattle.aka.specs.Demand3.{Each}
use Rattle.aka.specs.VlrLaws.{Given, given, nothing}
use Rattle.aka.specs.OrderOfUse.{History, nothing_yet, unused_from, Handled, is_taken, after, Gives, Meets, InOrder, answers}
use Rattle.aka.specs.OrderOfUse.{OrderOfUse}

-- ---- a node that refuses every call

pub refuses_all : (node : Vlr → Call → VlrAnswer) → ((vlr : Vlr) (call : Call) → is_taken (node vlr call) ≡ false) → OrderOfUse node → ⊥
unfolding InOrder answers unused_from
refuses_all node refuses order =
    let first = (order (store vector 1 (zeros vector_size) ∷ [])).0 in
    false≢true (
    sym (refuses new_vlr (store vector 1 (zeros vector_size)))
    ∙ first.taken.1 (record { count = (omega arith, omega arith); part = refl; contents = refl; state = inl refl; held = omega arith }))

-- ---- a call that gives no octet gives none, at whatever point of whatever list

-- Store, Renew, Reject, Timeout and Abandon
abbrev silent : Call → Bool
silent (store kind count batch) = true
silent (renew kind count batch) = true
silent ask = false
silent again = false
silent (answer res) = false
silent (sync auts) = false
silent reject = true
silent timeout = true
silent abandon = true

gives_none : (call : Call) (h : History) (a : VlrAnswer) → silent call ≡ true → Gives call h a → given a ≡ nothing
gives_none (store kind count batch) h a s g = g.1
gives_none (renew kind count batch) h a s g = g.1
gives_none ask h a s g = absurd (false≢true s)
gives_none again h a s g = absurd (false≢true s)
gives_none (answer res) h a s g = absurd (false≢true s)
gives_none (sync auts) h a s g = absurd (false≢true s)
gives_none reject h a s g = g.1
gives_none timeout h a s g = g.1
gives_none abandon h a s g = g.1

none_given : (h : History) (x : Handled) → Meets h x → silent x.call ≡ true → given x.answer ≡ nothing
none_given h x m s = go (is_taken x.answer) refl
  where
    go : (b : Bool) → is_taken x.answer ≡ b → given x.answer ≡ nothing
    go true e = gives_none x.call h x.answer s (m.gives e)
    go false e = m.refused e

each_silent : (h : History) (l : List Handled) → InOrder h l → Each (λ x. silent x.call ≡ true → given x.answer ≡ nothing) l
unfolding InOrder
each_silent h [] order = tt
each_silent h (x ∷ rest) order = (none_given h x order.0, each_silent (after h x) rest order.1)

pub gives_no_octet : (node : Vlr → Call → VlrAnswer) → OrderOfUse node → (calls : List Call)
    → Each (λ x. silent x.call ≡ true → given x.answer ≡ nothing) (answers node new_vlr calls)
gives_no_octet node order calls = each_silent nothing_yet (answers node new_vlr calls) (order calls)

-- so a node that answers as it should, but whose Abandon hands out some RAND and AUTN, does not meet the statement
module _ (rand autn : Octets) where
  abbrev leaking : Vlr → Call → VlrAnswer
  leaking vlr (store kind count batch) = reply vlr (store kind count batch)
  leaking vlr (renew kind count batch) = reply vlr (renew kind count batch)
  leaking vlr ask = reply vlr ask
  leaking vlr again = reply vlr again
  leaking vlr (answer res) = reply vlr (answer res)
  leaking vlr (sync auts) = reply vlr (sync auts)
  leaking vlr reject = reply vlr reject
  leaking vlr timeout = reply vlr timeout
  leaking vlr abandon =
      let a = reply vlr abandon in
      record { outcome = a.outcome; vlr = a.vlr; rand = rand; autn = autn; auts = a.auts; ck = a.ck; ik = a.ik; kc = a.kc }

  pub leaks : (rand ≡ zeros 16 → ⊥) → OrderOfUse leaking → ⊥
  unfolding answers
  leaks other order =
      let last = (gives_no_octet leaking order (store vector 1 (zeros vector_size) ∷ ask ∷ abandon ∷ [])).1.1.0 refl in
      other (ap (λ (g : Given). g.rand) last)
