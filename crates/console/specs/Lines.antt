-- The lines of an input (document 01, 'The bench program'). Assumes nothing: these are definitions.
use Rattle.std.specs.Prelude.{ℕ, Bool, false, ◌||◌, cond, List, [], ◌∷◌, ◌++◌, eqb}

-- the byte that ends a line
abbrev pub newline : ℕ
newline = 10

-- bytes that no newline ends are a line, unless there are none
unfoldable pub last_line : List ℕ → List (List ℕ)
last_line [] = []
last_line (c ∷ l) = (c ∷ l) ∷ []

-- bytes with no newline before an input with these lines: they are of its first line, or the last line
unfoldable pub before : List ℕ → List (List ℕ) → List (List ℕ)
before part [] = last_line part
before part (l ∷ ls) = (part ++ l) ∷ ls

-- the lines of an input: a newline ends a line and is not part of it, and bytes after the last newline are a line
unfoldable pub lines : List ℕ → List (List ℕ)
lines [] = []
lines (c ∷ t) = cond (eqb c newline) ([] ∷ lines t) (before (c ∷ []) (lines t))

-- a newline is among the bytes
unfoldable pub has_newline : List ℕ → Bool
has_newline [] = false
has_newline (c ∷ t) = eqb c newline || has_newline t

-- the bytes up to the first newline, without it; all where there is none
unfoldable pub up_to_newline : List ℕ → List ℕ
up_to_newline [] = []
up_to_newline (c ∷ t) = cond (eqb c newline) [] (c ∷ up_to_newline t)

-- the bytes after the first newline; none where there is none
unfoldable pub past_newline : List ℕ → List ℕ
past_newline [] = []
past_newline (c ∷ t) = cond (eqb c newline) t (past_newline t)
