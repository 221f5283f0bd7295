-- The steps of a turn, as the code takes them, are those of the definitions. Assumes nothing.
use Prim.Native.Nat.{ℕ, suc, ◌+◌, ◌-◌, ◌/◌, ◌≤◌, min}
use mathlib.Core.Bool.{and-false, Bool, true, false, ◌||◌, not, cond}
use mathlib.Core.List.{List, [], ◌∷◌}
use mathlib.Core.Path.{◌≡◌, refl, sym, ap, ap₂, ◌∙◌}
use native.Mathlib.Omega.{arith}
use borrow.Author.Tests.{lt-ltb, ne_eqb}
use lib.Dec.{eqb, ltb}
use lib.ListN.{drop, length, take}
use lib.Seq.{drop-drop}
use Rattle.octets.proofs.Walks.{drop_min}
use Rattle.console.specs.Lines.{past_newline, up_to_newline}
use Rattle.console.specs.Turns.{Standing, due, exchanged, is_empty, line_ends, longer, not_due, reads, standing, part_taken, writes}
use Rattle.console.proofs.BufferLaws.{all_or_none, less}
use Rattle.console.proofs.LineLaws.{rest}

-- ---- the code's tests

pub is_empty_lem : (l : List ℕ) → eqb (length l) 0 ≡ is_empty l
unfolding is_empty
is_empty_lem [] = refl
is_empty_lem (x ∷ l) = ne_eqb (suc (length l)) 0 (λ e. omega arith)

pub has_some : (l : List ℕ) → ltb 0 (length l) ≡ not (is_empty l)
unfolding is_empty
has_some [] = refl
has_some (x ∷ l) = lt-ltb 0 (suc (length l)) (omega arith)

-- whether the next piece is read
module _ (s : Standing) where
  pub reads_on : {left : List ℕ} → left ≡ s.piece → length left ≡ 0 → s.over ≡ false → reads s ≡ true
  unfolding reads
  reads_on l e o = rw (← l, ← is_empty_lem, e, o)

  pub some_left : {left : List ℕ} → left ≡ s.piece → (length left ≡ 0 → ⊥) → reads s ≡ false
  unfolding reads
  some_left {left} l n = rw (← l, ← is_empty_lem, ne_eqb (length left) 0 n)

  pub has_ended : s.over ≡ true → reads s ≡ false
  unfolding reads
  has_ended o = rw o (and-false (is_empty s.piece))

module _ (room : ℕ) (s : Standing) where
  -- what is due, as the code counts it
  pub due_is : {left waits handed : List ℕ} {count : ℕ} → left ≡ s.piece → waits ≡ s.waiting
      → count ≡ cond (eqb (length left) 0 || ltb (room / 2) (length waits)) (length waits) 0 → handed ≡ take count waits
      → handed ≡ due room s
  unfolding due writes
  due_is {left} {waits} l w counted h =
      h ∙ ap (λ (n : ℕ). take n waits) counted ∙ all_or_none (eqb (length left) 0 || ltb (room / 2) (length waits)) waits
      ∙ ap₂ (λ (x : Bool) (y : List ℕ). cond (x || ltb (room / 2) (length y)) y []) (is_empty_lem left ∙ ap is_empty l) w

  pub due_waits : {waits : List ℕ} {n : ℕ} → waits ≡ s.waiting → n ≡ length (due room s) → n ≤ length waits
  unfolding due
  due_waits w n = rw (n, w) (go (writes room s))
    where
      go : (b : Bool) → length (cond b s.waiting []) ≤ length s.waiting
      go true = omega arith
      go false = omega arith

  -- what still waits
  pub still_waits : (out : List ℕ) (used : ℕ) {waits : List ℕ} {n : ℕ} → s.waiting ≡ take used out → waits ≡ s.waiting
      → n ≡ length (due room s) → take (length waits - n) out ≡ not_due room s
  unfolding due not_due
  still_waits out used stands w n = rw (n, w) (less out used (writes room s) stands)

  -- nothing is read
  pub not_read : (came : List ℕ) {waits : List ℕ} → reads s ≡ false → waits ≡ not_due room s
      → standing s.piece s.line waits s.ready s.over false ≡ exchanged room s came
  unfolding exchanged
  not_read came kept w = rw (kept, w)

  -- the next piece is read
  pub was_read : (came : List ℕ) {waits : List ℕ} {over : Bool} → reads s ≡ true → waits ≡ not_due room s → over ≡ is_empty came
      → standing came s.line waits s.ready over false ≡ exchanged room s came
  unfolding exchanged
  was_read came used w o = rw (used, w, o)

-- the place after a part and its newline, or past the end of the piece
pub next_place : (came : List ℕ) (at : ℕ) {from n : ℕ} → from ≡ min at (length came) → n ≡ length (up_to_newline (drop at came))
    → drop (from + n + 1) came ≡ past_newline (drop at came)
next_place came at {from} {n} f e =
    let sum : from + n + 1 ≡ from + (n + 1) = omega arith in
    rw sum
    (sym (drop-drop (n + 1) from came)
    ∙ ap₂ (λ (k : ℕ) (l : List ℕ). drop (k + 1) l) e (ap (λ (k : ℕ). drop k came) f ∙ drop_min at came)
    ∙ rest (drop at came))

-- a part is taken
pub was_taken : (longest : ℕ) (s : Standing) {piece line : List ℕ} {ends : Bool} → piece ≡ past_newline s.piece
    → line ≡ longer longest s.line (up_to_newline s.piece) → ends ≡ line_ends s.piece s.over line
    → standing piece line s.waiting ends s.over s.failed ≡ part_taken longest s
unfolding part_taken
was_taken longest s p l e = rw (p, e, l)
