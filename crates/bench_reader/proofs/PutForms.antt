-- Why a line is no put line, and what it is where it is one. Assumes nothing.
use Prim.Native.Nat.{ℕ, ◌+◌, ◌-◌, ◌≤◌, ◌<◌}
use mathlib.Core.Bool.{Bool, true, false, cond, and-false}
use mathlib.Core.List.{List, [], ◌∷◌}
use Rattle.std.specs.Prelude.{Option, Some, None}
use mathlib.Core.Path.{◌≡◌, refl, sym, ap, ◌∙◌}
use native.Mathlib.Omega.{arith}
use borrow.Author.Tests.{le-leb, lt-leb}
use lib.Dec.{eqb, leb}
use lib.ListN.{length, take, drop, length-drop, drop_of_length-le}
use lib.Seq.{take_all}
use Rattle.fields.specs.Fields.{space, field, end_of, decimal, is_decimal}
use Rattle.bench_reader.specs.Commands.{bad_line, alone, is_number, seqhe_at, seqhe_digits, next_digits, seqhe_text, next_text}
use Rattle.bench_reader.specs.Commands.{put_form, put_command, read_put}

-- ---- numbers

pub too_long : (most : ℕ) (text : List ℕ) → most < length text → is_number most text ≡ false
unfolding is_number
too_long most text h = rw (lt-leb (length text) most h)

pub short_enough : (most : ℕ) (text : List ℕ) → length text ≤ most → is_number most text ≡ is_decimal text
unfolding is_number
short_enough most text h = rw (le-leb (length text) most h)

pub ruleset numbers = (too_long, short_enough)

pub no_digits : (most : ℕ) → is_number most [] ≡ false
unfolding is_number is_decimal
no_digits most = and-false (leb 0 most)

-- what was read of a text says of it
module _ (most : ℕ) {text t : List ℕ} (is : text ≡ t) where
  pub number_none : {n : Option ℕ} → n ≡ cond (is_number most text) (Some (decimal text)) None → n ≡ None → is_number most t ≡ false
  number_none said e = rw (← is) (none (is_number most text) (sym said ∙ e))
    where
      none : (b : Bool) → cond b (Some (decimal text)) None ≡ None → b ≡ false
      none true h = absurd (cc)
      none false h = refl

  pub number_some : {n : Option ℕ} {v : ℕ} → n ≡ cond (is_number most text) (Some (decimal text)) None → n ≡ Some v
      → (is_number most t ≡ true) × (v ≡ decimal t)
  number_some {n} {v} said e = rw (← is) (some (is_number most text) (sym said ∙ e))
    where
      some : (b : Bool) → cond b (Some (decimal text)) None ≡ Some v → (b ≡ true) × (v ≡ decimal text)
      some true h = (refl, cc)
      some false h = absurd (cc)

front : (t : List ℕ) → take (length (field t)) t ≡ field t
unfolding field
front [] = refl
front (c ∷ t) = go (eqb c space) (front t)
  where
    go : (b : Bool) → take (length (field t)) t ≡ field t
        → take (length (cond b [] (c ∷ field t))) (c ∷ t) ≡ cond b [] (c ∷ field t)
    go true h = refl
    go false h = ap (λ (l : List ℕ). c ∷ l) h

module _ (line : List ℕ) {e : ℕ} (end : e ≡ end_of line seqhe_at) where
  pub seqhe_is : take (e - seqhe_at) (drop seqhe_at line) ≡ seqhe_text line
  unfolding seqhe_text end_of
  seqhe_is = let n : e - seqhe_at ≡ length (field (drop seqhe_at line)) = omega arith in rw n (front (drop seqhe_at line))

  pub next_is : take (length line - (e + 1)) (drop (e + 1) line) ≡ next_text line
  unfolding next_text
  next_is = rw (← end) (take_all (length line - (e + 1)) (drop (e + 1) line) (simp length-drop (omega arith)))

  pub no_next : e ≡ length line → is_number next_digits (next_text line) ≡ false
  unfolding next_text
  no_next h = rw (← end, drop_of_length-le line {i = e + 1} (omega arith)) (no_digits next_digits)

module _ (line : List ℕ) where
  no_put : put_form line ≡ false → alone bad_line ≡ read_put line
  unfolding read_put
  no_put e = rw e

  pub put_seqhe : is_number seqhe_digits (seqhe_text line) ≡ false → alone bad_line ≡ read_put line
  unfolding put_form
  put_seqhe e = no_put (rw e)

  pub put_next : is_number next_digits (next_text line) ≡ false → alone bad_line ≡ read_put line
  unfolding put_form
  put_next e = no_put (rw e (and-false (is_number seqhe_digits (seqhe_text line))))

  pub put_read : {seqhe next : ℕ} → is_number seqhe_digits (seqhe_text line) ≡ true → is_number next_digits (next_text line) ≡ true
      → seqhe ≡ decimal (seqhe_text line) → next ≡ decimal (next_text line) → put_command seqhe next ≡ read_put line
  unfolding read_put put_form
  put_read a b is-seqhe is-next = rw (a, b, is-seqhe, is-next)

-- both numbers, each test of them that fails, and the line that has them
pub ruleset put_forms = (
  seqhe_is,
  next_is,
  no_next,
  put_seqhe,
  put_next,
  put_read,
  number_none,
  number_some,
)
