-- The loop of a program that answers lines: each turn goes on with the run. Assumes nothing.
use Prim.Native.Nat.{ℕ, ◌+◌, ◌/◌, ◌≤◌}
use mathlib.Core.Bool.{Bool, true, false, ◌&&◌, ◌||◌, not}
use mathlib.Core.List.{List, []}
use mathlib.Core.Logic.{inl, inr}
use mathlib.Core.Path.{◌≡◌, refl, ap, ap₂, ◌∙◌}
use native.Mathlib.Omega.{arith}
use borrow.Author.Tests.{eqb-true}
use lib.Dec.{eqb}
use lib.ListN.{drop, length, take}
use Rattle.console.specs.Buffers.{appended, buffer_of}
use Rattle.console.specs.declared.Progress.{Progress}
use Rattle.console.specs.Turns.{AnsweredIf, Answering, History, Ran, Run, Standing}
use Rattle.console.specs.Turns.{advanced, answer, answered, at_first, begin, ended, ended_at, is_empty, most_turns, standing}
use Rattle.console.specs.Turns.{standing_of, turn}
use Rattle.console.proofs.BufferLaws.{filled_front}

-- the code's test of the end
pub ended_is : (piece line out : List ℕ) (p : Progress) → ended_at p ≡ true → ended (standing_of piece line out p) ≡ true
unfolding ended is_empty
ended_is piece line out p e = go p.failed p.over p.ready p.used e
  where
    go : (failed over ready : Bool) (used : ℕ) → (failed || over && not ready && eqb used 0) ≡ true
        → (failed || over && not ready && is_empty (take used out)) ≡ true
    go true over ready used e = refl
    go false false ready used e = e
    go false true true used e = e
    go false true false used e = ap (λ (n : ℕ). is_empty (take n out)) (eqb-true used 0 e)

-- the answer's text goes behind those that wait
pub answer_is : (piece line out text : List ℕ) (p : Progress) {r : Progress} {after : List ℕ}
    → buffer_of r.used after ≡ appended out p.used text
    → r ≡ record { at = p.at; size = p.size; held = 0; used = r.used; ready = false; over = p.over; failed = p.failed }
    → standing_of piece line after r ≡ answered (length out) (standing_of piece line out p) text
unfolding answered
answer_is piece line out text p {r} {after} filled is =
    ap (λ (q : Progress). standing_of piece line after q) is
    ∙ ap (λ (w : List ℕ). standing (drop p.at (take p.size piece)) [] w false p.over p.failed) (filled_front _ out filled)

module _ {S : Type 0} (Answers : Answering S) (first : S) (longest room : ℕ) where
  -- a run that goes on, after so many turns
  pub record Going (turns : ℕ) (state : S) (s : Standing) : Type 0 where
    pub history : History S
    pub run : Run Answers first longest room history state s
    pub count : history.turns ≡ turns
    pub idle : s.ready ≡ false

  going_first : Going 0 first at_first
  going_first = record {
    history = record { turns = 0; input = []; output = []; given = [] };
    run = begin;
    count = refl;
    idle = refl;
  }

  -- before the first read, whatever the buffers hold
  pub going_begun : (piece line out : List ℕ) {state : S} {p : Progress} → state ≡ first
      → p ≡ record { at = 0; size = 0; held = 0; used = 0; ready = false; over = false; failed = false }
      → Going 0 state (standing_of piece line out p)
  going_begun piece line out e is = rw (e, is) going_first

  there : {h : History S} {state : S} {s s' : Standing} → s' ≡ s → Run Answers first longest room h state s
      → Run Answers first longest room h state s'
  there e run = rw e run

  -- the program's own part of a turn
  own_part : (ready : Bool) {h : History S} {state after : S} {s s' : Standing} → s.ready ≡ ready
      → Run Answers first longest room h state s
      → AnsweredIf ready Answers room state s after s'
      → (h' : History S) × Run Answers first longest room h' after s' × (h'.turns ≡ h.turns) × (s'.ready ≡ false)
  unfolding AnsweredIf answered
  own_part false {h} e run is = (h, rw (is.0, is.1) run, refl, ap (λ (x : Standing). x.ready) is.1 ∙ e)
  own_part true {h} {after} e run is =
      (_, there is.3 (answer run e is.0 after is.1 is.2), refl, ap (λ (x : Standing). x.ready) is.3)

  -- a turn, of a program whose buffers have these sizes
  module _ {turns : ℕ} {state : S} {s s₁ : Standing} (g : Going turns state s) (failed : Bool) (came : List ℕ) {l r : ℕ}
      (is : s₁ ≡ advanced l r s failed came) (line : l ≡ longest) (out : r ≡ room) where
    turned : s₁ ≡ advanced longest room s failed came
    turned = is ∙ ap₂ (λ (x y : ℕ). advanced x y s failed came) line out

    -- with the program's own part it goes on
    pub goes_on : {after : S} {s₂ : Standing} → AnsweredIf s₁.ready Answers r state s₁ after s₂ → Going (turns + 1) after s₂
    goes_on part =
        let next = own_part s₁.ready refl (there turned (turn g.run g.idle failed came)) (rw out at part) in
        record { history = next.0; run = next.1; count = omega (arith, g.count, next.2); idle = next.3 }

    -- without it, it ends
    pub ends : ended s₁ ≡ true → Ran Answers first longest room state s₁
    ends e = record { history = _; run = there turned (turn g.run g.idle failed came); end = inl e }

  -- the last turn is over
  pub runs_out : {turns : ℕ} {state : S} {s : Standing} → Going turns state s → turns ≡ most_turns → Ran Answers first longest room state s
  runs_out g all = record { history = g.history; run = g.run; end = inr (omega (arith, g.count)) }

-- ---- the program's own part, in its two ways

pub not_answered : {S : Type 0} (Answers : Answering S) (room : ℕ) (ready : Bool) (state : S) (s : Standing)
    → ready ≡ false → AnsweredIf ready Answers room state s state s
unfolding AnsweredIf
not_answered Answers room ready state s e = rw e (refl, refl)

pub was_answered : {S : Type 0} (Answers : Answering S) (room : ℕ) (ready : Bool) (state after : S)
    (s : Standing) {s' : Standing} (text : List ℕ) → ready ≡ true → Answers state s.line text after → length text ≤ room / 2
    → s' ≡ answered room s text → AnsweredIf ready Answers room state s after s'
unfolding AnsweredIf
was_answered Answers room ready state after s text e is fits put = rw e (text, is, fits, put)
