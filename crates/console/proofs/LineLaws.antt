-- The laws of lines: those of an input that begins with a part of a line. Assumes nothing.
use Prim.Native.Nat.{ℕ, zero, suc, ◌+◌, ◌<◌, ◌≤◌}
use mathlib.Core.Bool.{Bool, true, false, ◌||◌, cond, false≢true}
use mathlib.Core.List.{List, [], ◌∷◌, ◌++◌, append_assoc, append-nil, map}
use mathlib.Core.Logic.{⊎_elim}
use mathlib.Core.Path.{◌≡◌, refl, sym, ap, ◌∙◌}
use native.Mathlib.Numerals.{add-one}
use native.Mathlib.Omega.{arith}
use borrow.Author.Tests.{eq-eqb, lt-ltb, ne_eqb}
use lib.Dec.{eqb, ltb, leb-suc-suc}
use Rattle.std.proofs.Common.{get_or, ◌≢◌}
use lib.ListN.{drop, length, length-take, take}
use lib.Seq.{take_all, take-nil, take-take}
use Rattle.octets.proofs.Walks.{order}
use Rattle.console.specs.Lines.{before, has_newline, last_line, lines, newline, past_newline, up_to_newline}

-- ---- the first line of some bytes, and what follows it

-- the bytes before the first newline are a front
pub front : (t : List ℕ) → take (length (up_to_newline t)) t ≡ up_to_newline t
unfolding up_to_newline
front [] = refl
front (c ∷ t) = go (eqb c newline) (front t)
  where
    go : (b : Bool) → take (length (up_to_newline t)) t ≡ up_to_newline t
        → take (length (cond b [] (c ∷ up_to_newline t))) (c ∷ t) ≡ cond b [] (c ∷ up_to_newline t)
    go true e = refl
    go false e = ap (λ (l : List ℕ). c ∷ l) e

pub front_le : (t : List ℕ) → length (up_to_newline t) ≤ length t
front_le t = omega (arith, sym (length-take (length (up_to_newline t)) t) ∙ ap length (front t))

-- a newline follows them, unless they are all
pub followed : (t : List ℕ) → has_newline t ≡ ltb (length (up_to_newline t)) (length t)
unfolding up_to_newline has_newline
followed [] = refl
followed (c ∷ t) = go (eqb c newline) (followed t)
  where
    go : (b : Bool) → has_newline t ≡ ltb (length (up_to_newline t)) (length t)
        → (b || has_newline t) ≡ ltb (length (cond b [] (c ∷ up_to_newline t))) (suc (length t))
    go true e = sym (lt-ltb 0 (suc (length t)) (omega arith))
    go false e = e ∙ sym (leb-suc-suc (suc (length (up_to_newline t))) (length t))

-- what follows the newline
pub rest : (t : List ℕ) → drop (length (up_to_newline t) + 1) t ≡ past_newline t
unfolding up_to_newline past_newline
rest [] = refl
rest (c ∷ t) = rw (add-one (length (up_to_newline (c ∷ t)))) (go (eqb c newline) (rw (add-one (length (up_to_newline t))) at (rest t)))
  where
    go : (b : Bool) → drop (suc (length (up_to_newline t))) t ≡ past_newline t
        → drop (suc (length (cond b [] (c ∷ up_to_newline t)))) (c ∷ t) ≡ cond b t (past_newline t)
    go true e = refl
    go false e = e

-- without a newline they are all, and nothing follows
pub all_of_it : (t : List ℕ) → has_newline t ≡ false → (up_to_newline t ≡ t) × (past_newline t ≡ [])
unfolding has_newline up_to_newline past_newline
all_of_it [] e = (refl, refl)
all_of_it (c ∷ t) e = go (eqb c newline) (all_of_it t) e
  where
    go : (b : Bool) → (has_newline t ≡ false → (up_to_newline t ≡ t) × (past_newline t ≡ [])) → (b || has_newline t) ≡ false
        → (cond b [] (c ∷ up_to_newline t) ≡ c ∷ t) × (cond b t (past_newline t) ≡ [])
    go true h e = absurd (false≢true (sym e))
    go false h e = (ap (λ (l : List ℕ). c ∷ l) (h e).0, (h e).1)

-- ---- the lines of an input, by what it begins with

-- the first line is what stands before the first newline, and the others are the lines of what follows it
pub lines_first : (t more : List ℕ) → has_newline t ≡ true → lines (t ++ more) ≡ up_to_newline t ∷ lines (past_newline t ++ more)
unfolding lines before has_newline up_to_newline past_newline
lines_first [] more e = absurd (false≢true e)
lines_first (c ∷ t) more e = go (eqb c newline) (lines_first t more) e
  where
    go : (b : Bool) → (has_newline t ≡ true → lines (t ++ more) ≡ up_to_newline t ∷ lines (past_newline t ++ more))
        → (b || has_newline t) ≡ true
        → cond b ([] ∷ lines (t ++ more)) (before (c ∷ []) (lines (t ++ more)))
        ≡ cond b [] (c ∷ up_to_newline t) ∷ lines (cond b t (past_newline t) ++ more)
    go true h e = refl
    go false h e = rw (h e)

pub before_none : (ls : List (List ℕ)) → before [] ls ≡ ls
unfolding before last_line
before_none [] = refl
before_none (l ∷ ls) = refl

pub before_more : (a b : List ℕ) (ls : List (List ℕ)) → before a (before b ls) ≡ before (a ++ b) ls
unfolding before last_line
before_more a [] [] = ap last_line (sym (append-nil a))
before_more [] (y ∷ b) [] = refl
before_more (x ∷ a) (y ∷ b) [] = refl
before_more a b (l ∷ ls) = ap (λ (x : List ℕ). x ∷ ls) (sym (append_assoc a b l))

-- bytes without a newline are of the first line
pub lines_before : (t more : List ℕ) → has_newline t ≡ false → lines (t ++ more) ≡ before t (lines more)
unfolding lines has_newline
lines_before [] more e = sym (before_none (lines more))
lines_before (c ∷ t) more e = go (eqb c newline) (lines_before t more) e
  where
    go : (b : Bool) → (has_newline t ≡ false → lines (t ++ more) ≡ before t (lines more)) → (b || has_newline t) ≡ false
        → cond b ([] ∷ lines (t ++ more)) (before (c ∷ []) (lines (t ++ more))) ≡ before (c ∷ t) (lines more)
    go true h e = absurd (false≢true (sym e))
    go false h e = ap (before (c ∷ [])) (h e) ∙ before_more (c ∷ []) t (lines more)

-- ---- lines of which only the first bytes are held

-- what is put behind bytes that are cut off is not seen
pub cut_append : (n : ℕ) (a b : List ℕ) → take n (take n a ++ b) ≡ take n (a ++ b)
cut_append n [] b = ap (λ (l : List ℕ). take n (l ++ b)) (take-nil n)
cut_append zero (x ∷ a) b = refl
cut_append (suc n) (x ∷ a) b = ap (λ (l : List ℕ). x ∷ l) (cut_append n a b)

-- so a line may be cut off before the rest of it comes
pub cut_before : (n : ℕ) (a : List ℕ) (ls : List (List ℕ)) → 1 ≤ n → map (take n) (before (take n a) ls) ≡ map (take n) (before a ls)
unfolding before last_line
cut_before n [] ls h = ap (λ (l : List ℕ). map (take n) (before l ls)) (take-nil n)
cut_before zero (x ∷ a) ls h = absurd (omega arith)
cut_before (suc n) (x ∷ a) [] h = ap (λ (l : List ℕ). (x ∷ l) ∷ []) (take-take n n a (omega arith))
cut_before (suc n) (x ∷ a) (l ∷ ls) h = ap (λ (y : List ℕ). y ∷ map (take (suc n)) ls) (cut_append (suc n) (x ∷ a) l)

-- where every line that is longer than `n` bytes has the same answer, no more than `n` + 1 of them need be seen
pub cut_long : {A : Type 0} (f : List ℕ → A) (long : A) (n size : ℕ) → n < size → ((line : List ℕ) → n < length line → f line ≡ long)
    → (line : List ℕ) → f (take size line) ≡ f line
cut_long f long n size h same line =
    ⊎_elim
    (λ (more : size < length line).
    same (take size line) (rw (length-take size line) (omega arith)) ∙ sym (same line (omega arith)))
    (λ (fits : length line ≤ size). ap f (take_all size line fits)) (order size (length line))

-- how many bytes come before the first newline
pub first_newline : (t : List ℕ) (n : ℕ) → n ≤ length t → ((k : ℕ) → k < n → get_or t k 0 ≢ newline)
    → (n < length t → get_or t n 0 ≡ newline) → n ≡ length (up_to_newline t)
unfolding up_to_newline
first_newline [] n h before found = omega arith
first_newline (c ∷ t) zero h before found = rw (eq-eqb c newline (found (omega arith))) refl
first_newline (c ∷ t) (suc n) h before found =
    rw (ne_eqb c newline (before 0 (omega arith)))
    (omega (arith, first_newline t n (omega arith) (λ k g. before (suc k) (omega arith)) (λ g. found (omega arith))))
