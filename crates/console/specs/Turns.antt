-- A program that answers lines. It has one piece of its input at a time, a buffer for the line and one for the answers, and goes on in
-- turns: it writes out what waits, reads, takes a part of the line, and answers the line once it is whole. What a read brings and whether
-- a write arrives, only the operating system knows: here both are any. Assumes nothing: these are definitions.
use Rattle.std.specs.Prelude.{ℕ, ◌+◌, ◌/◌, ◌≤◌, Bool, true, false, ◌&&◌, ◌||◌, not, cond, ◌⊎◌, ◌≡◌, eqb, ltb, length, take, drop}
use mathlib.Core.List.{List, [], ◌∷◌, ◌++◌, map, flatten}
use Rattle.console.specs.Lines.{has_newline, lines, past_newline, up_to_newline}
use Rattle.console.specs.declared.Progress.{Progress}

unfoldable pub is_empty : List ℕ → Bool
is_empty [] = true
is_empty (x ∷ l) = false

-- ---- where a program stands

pub record Standing : Type 0 where
  pub piece : List ℕ  -- what is not taken yet of the piece that the last read brought
  pub line : List ℕ  -- the line so far, or its first bytes where the line buffer has no room for more
  pub waiting : List ℕ  -- the answers that are not written out yet
  pub ready : Bool  -- the line is whole, and has no answer yet
  pub over : Bool  -- the input has ended
  pub failed : Bool  -- a write failed

abbrev pub standing : (piece line waiting : List ℕ) (ready over failed : Bool) → Standing
standing piece line waiting ready over failed = record {
  piece = piece;
  line = line;
  waiting = waiting;
  ready = ready;
  over = over;
  failed = failed;
}

-- before the first read
abbrev pub at_first : Standing
at_first = standing [] [] [] false false false

-- where a program stands that has these three buffers
abbrev pub standing_of : (piece line out : List ℕ) → Progress → Standing
standing_of piece line out p =
    standing (drop p.at (take p.size piece)) (take p.held line) (take p.used out) p.ready p.over p.failed

-- ---- a turn, up to the answer. `longest` is the size of the line buffer, and `room` that of the buffer of answers

-- answers are written out before a read, so that a person who types has them, and where more than half of their buffer is used, so that
-- the next one has room
unfoldable pub writes : (room : ℕ) → Standing → Bool
writes room s = is_empty s.piece || ltb (room / 2) (length s.waiting)

unfoldable pub due : (room : ℕ) → Standing → List ℕ
due room s = cond (writes room s) s.waiting []

unfoldable pub not_due : (room : ℕ) → Standing → List ℕ
not_due room s = cond (writes room s) [] s.waiting

-- the next piece is read where the last one is used up, unless the input has ended
unfoldable pub reads : Standing → Bool
reads s = is_empty s.piece && not s.over

-- after the write and the read. A read that brings nothing is the end of the input
unfoldable pub exchanged : (room : ℕ) → Standing → (came : List ℕ) → Standing
exchanged room s came =
    standing (cond (reads s) came s.piece) s.line (not_due room s) s.ready (cond (reads s) (is_empty came) s.over) false

-- the line with more of its bytes, as far as the line buffer has room
unfoldable pub longer : (longest : ℕ) → (line part : List ℕ) → List ℕ
longer longest line part = take longest (line ++ part)

-- a line ends at a newline, and at the end of the input if it has any bytes
unfoldable pub line_ends : (piece : List ℕ) (over : Bool) (line : List ℕ) → Bool
line_ends piece over line = has_newline piece || over && not (is_empty line)

-- after a part of the line was taken, up to a newline or the end of the piece
unfoldable pub part_taken : (longest : ℕ) → Standing → Standing
part_taken longest s =
    let line = longer longest s.line (up_to_newline s.piece) in
    standing (past_newline s.piece) line s.waiting (line_ends s.piece s.over line) s.over s.failed

-- after a write that failed: nothing more is done
unfoldable pub stopped : Standing → Standing
stopped s = standing s.piece s.line s.waiting s.ready s.over true

unfoldable pub advanced : (longest room : ℕ) → Standing → (failed : Bool) → (came : List ℕ) → Standing
advanced longest room s failed came = cond failed (stopped s) (part_taken longest (exchanged room s came))

-- ---- the answer: its text goes behind those that wait, and the next line begins

unfoldable pub answered : (room : ℕ) → Standing → (text : List ℕ) → Standing
answered room s text = standing s.piece [] (take room (s.waiting ++ text)) false s.over s.failed

-- which text and which next state a line may have in a state of the program
abbrev pub Answering : Type 0 → Type 1
Answering S = (state : S) (line text : List ℕ) (after : S) → Type 0

-- what a program's own part of a turn makes of its state and of where it stands: an answer where the line is whole, else nothing.
-- An answer is no longer than half of the buffer of answers
unfoldable pub AnsweredIf : (ready : Bool) → {S : Type 0} → (Answers : Answering S) → (room : ℕ)
    → (state : S) (s : Standing) (after : S) (s' : Standing) → Type 0
AnsweredIf false Answers room state s after s' = (after ≡ state) × (s' ≡ s)
AnsweredIf true Answers room state s after s' =
    (text : List ℕ) × Answers state s.line text after × (length text ≤ room / 2) × (s' ≡ answered room s text)

-- ---- the end: a write failed, or the input is over and all is answered and written out

unfoldable pub ended : Standing → Bool
ended s = s.failed || s.over && not s.ready && is_empty s.waiting

-- as the code tests it
abbrev pub ended_at : Progress → Bool
ended_at p = p.failed || p.over && not p.ready && eqb p.used 0

-- ---- all that a program did

-- a proved loop has to end: its last turn is the one with this number
abbrev pub most_turns : ℕ
most_turns = 18446744073709551615

-- an answer: the line as it was held, its text, and the program's own state after it
pub record Given (S : Type 0) : Type 0 where
  pub line : List ℕ
  pub text : List ℕ
  pub after : S

pub record History (S : Type 0) : Type 0 where
  pub turns : ℕ
  pub input : List ℕ  -- the bytes of all pieces, one after the other
  pub output : List ℕ  -- the bytes that were written out
  pub given : List (Given S)

-- each answer is one in the state that the answer before it left
unfoldable pub Chain : {S : Type 0} → (Answers : Answering S) → S → List (Given S) → S → Type 0
Chain Answers state [] last = state ≡ last
Chain Answers state (g ∷ rest) last = Answers state g.line g.text g.after × Chain Answers g.after rest last

-- `first` is the program's state at the beginning
module _ {S : Type 0} (Answers : Answering S) (first : S) (longest room : ℕ) where
  -- from the beginning, in turns and answers, each from where the one before left the program
  pub data Run : History S → S → Standing → Type 0 where
    begin : Run (record { turns = 0; input = []; output = []; given = [] }) first at_first
    turn : {h : History S} {state : S} {s : Standing} → Run h state s → s.ready ≡ false → (failed : Bool) (came : List ℕ)
        → Run
        (record {
          turns = h.turns + 1;
          input = h.input ++ cond (reads s && not failed) came [];
          output = h.output ++ cond failed [] (due room s);
          given = h.given;
        })
        state (advanced longest room s failed came)
    answer : {h : History S} {state : S} {s : Standing} → Run h state s → s.ready ≡ true → (text : List ℕ) (after : S)
        → Answers state s.line text after → length text ≤ room / 2
        → Run
        (record {
          turns = h.turns;
          input = h.input;
          output = h.output;
          given = h.given ++ (record { line = s.line; text = text; after = after } ∷ []);
        })
        after (answered room s text)

  -- a run up to its end
  pub record Ran (state : S) (s : Standing) : Type 0 where
    pub history : History S
    pub run : Run history state s
    pub end : (ended s ≡ true) ⊎ (history.turns ≡ most_turns)

  -- ---- the claim

  -- however the input is cut into pieces: the lines that were answered are its lines, in order, each once, with as many of their bytes as
  -- the line buffer has; what was written out is the texts of their answers, in order, each once; and the state was carried on
  pub record Served (h : History S) (state : S) : Type 0 where
    pub lines_are : map (λ (g : Given S). g.line) h.given ≡ map (take longest) (lines h.input)
    pub texts_are : h.output ≡ flatten (map (λ (g : Given S). g.text) h.given)
    pub states_are : Chain Answers first h.given state

  -- at any moment, as after a write that failed, or where more of the input is still to come: the lines that were answered are the first
  -- of its lines, and what was written out, then what waits, is the texts of their answers
  pub record SoFar (h : History S) (state : S) (s : Standing) : Type 0 where
    pub to_come : List (List ℕ)
    pub lines_are : map (λ (g : Given S). g.line) h.given ++ to_come ≡ map (take longest) (lines h.input)
    pub texts_are : h.output ++ s.waiting ≡ flatten (map (λ (g : Given S). g.text) h.given)
    pub states_are : Chain Answers first h.given state

  pub record Claim : Type 0 where
    pub at_the_end : {h : History S} {state : S} {s : Standing} → Run h state s → ended s ≡ true → s.failed ≡ false → Served h state
    pub at_any_moment : {h : History S} {state : S} {s : Standing} → Run h state s → SoFar h state s

-- ---- programs whose answer is a function of the state and the line

pub record Answer (S : Type 0) : Type 0 where
  pub text : List ℕ
  pub after : S

module _ {S : Type 0} (answer : S → (line : List ℕ) → Answer S) where
  abbrev pub Gives : (state : S) (line text : List ℕ) (after : S) → Type 0
  Gives state line text after = record { text = text; after = after } ≡ answer state line

  -- the texts of the answers to lines, one after the other
  unfoldable pub transcript : S → List (List ℕ) → List ℕ
  transcript state [] = []
  transcript state (l ∷ ls) = (answer state l).text ++ transcript (answer state l).after ls

  -- the claim for such a program: what it wrote out is the answers to the lines of its input
  abbrev pub AnswersAll : (first : S) (longest room : ℕ) → Type 0
  AnswersAll first longest room =
      (h : History S) (state : S) (s : Standing) → Run Gives first longest room h state s → ended s ≡ true → s.failed ≡ false
      → h.output ≡ transcript first (lines h.input)
