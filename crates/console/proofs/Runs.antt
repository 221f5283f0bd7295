-- The claim about programs that answer lines, for every run. Assumes nothing.
use Prim.Native.Nat.{ℕ, zero, suc, ◌/◌, ◌≤◌}
use mathlib.Core.Bool.{Bool, true, false, ◌&&◌, ◌||◌, not, cond, false≢true, and-false, and-true}
use mathlib.Core.List.{List, [], ◌∷◌, ◌++◌, append_assoc, append-nil, map, map-append, flatten}
use mathlib.Core.Path.{◌≡◌, refl, sym, ap, ap₂, ◌∙◌}
use native.Mathlib.Omega.{arith}
use borrow.Author.Tests.{ltb-false}
use lib.Dec.{ltb}
use lib.ListN.{length, take, length-append}
use lib.Seq.{append_snoc, take_all, take-nil}
use Rattle.console.specs.Lines.{before, has_newline, last_line, lines, past_newline, up_to_newline}
use Rattle.console.specs.Turns.{Answer, Answering, AnswersAll, Chain, Claim, Given, Gives, History, Run, Served, SoFar, Standing}
use Rattle.console.specs.Turns.{advanced, answer, answered, begin, due, ended, exchanged, is_empty, line_ends, longer}
use Rattle.console.specs.Turns.{not_due, reads, stopped, part_taken, transcript, turn, writes}
use Rattle.console.proofs.LineLaws.{all_of_it, before_more, before_none, cut_before, lines_before, lines_first}

-- ---- the lines that are still to be answered, by what the line buffer holds, where the input goes on with `more`

unfoldable left_of : (longest : ℕ) (ready over : Bool) (line piece more : List ℕ) → List (List ℕ)
left_of longest true over line piece more = line ∷ map (take longest) (lines (piece ++ more))
left_of longest false true line piece more = []
left_of longest false false line piece more = map (take longest) (before line (lines (piece ++ more)))

module _ (longest : ℕ) (some : 1 ≤ longest) where
  abbrev next_line : (line piece : List ℕ) → List ℕ
  next_line line piece = longer longest line (up_to_newline piece)

  -- a part is taken before the end of the input
  part_taken_lem : (line piece more : List ℕ) → left_of longest false false line piece more
      ≡ left_of longest (has_newline piece || false) false (next_line line piece) (past_newline piece) more
  unfolding left_of before longer
  part_taken_lem line piece more = go (has_newline piece) refl
    where
      go : (b : Bool) → has_newline piece ≡ b → left_of longest false false line piece more
          ≡ left_of longest (b || false) false (next_line line piece) (past_newline piece) more
      go true e = ap (λ (ls : List (List ℕ)). map (take longest) (before line ls)) (lines_first piece more e)
      go false e =
          let all = all_of_it piece e in
          ap (λ (ls : List (List ℕ)). map (take longest) (before line ls)) (lines_before piece more e)
          ∙ ap (map (take longest)) (before_more line piece (lines more))
          ∙ sym (cut_before longest (line ++ piece) (lines more) some)
          ∙ ap₂ (λ (x y : List ℕ). map (take longest) (before (take longest (line ++ x)) (lines (y ++ more)))) (sym all.0) (sym all.1)

  -- at the end of the input what is held is the last line
  last_taken : (line : List ℕ) → left_of longest false false line [] []
      ≡ left_of longest (not (is_empty (longer longest line []))) true (longer longest line []) [] []
  unfolding left_of before last_line lines longer is_empty
  last_taken line = go longest line some
    where
      go : (n : ℕ) (l : List ℕ) → 1 ≤ n
          → left_of n false false l [] [] ≡ left_of n (not (is_empty (longer n l []))) true (longer n l []) [] []
      go n [] h = ap (λ (x : List ℕ). left_of n (not (is_empty x)) true x [] []) (sym (take-nil n))
      go zero (x ∷ l) h = absurd (omega arith)
      go (suc n) (x ∷ l) h = ap (λ (y : List ℕ). (x ∷ take n y) ∷ []) (sym (append-nil l))

  -- after the end nothing is held, and nothing is taken
  none_taken : (line : List ℕ) → line ≡ []
      → [] ≡ left_of longest (not (is_empty (longer longest line []))) true (longer longest line []) [] []
  unfolding left_of longer is_empty
  none_taken line e =
      ap (λ (x : List ℕ). left_of longest (not (is_empty x)) true x [] [])
      (sym (ap (λ (l : List ℕ). longer longest l []) e ∙ take-nil longest))

-- ---- a turn of which no write failed

-- the piece and the end of the input after the read, and what it brought
module _ (piece came : List ℕ) (over : Bool) where
  abbrev now_read : Bool
  now_read = is_empty piece && not over

  abbrev next_piece : List ℕ
  next_piece = cond now_read came piece

  abbrev next_over : Bool
  next_over = cond now_read (is_empty came) over

  abbrev brought : List ℕ
  brought = cond now_read came []

empty : (l : List ℕ) → not (is_empty l) ≡ false → l ≡ []
unfolding is_empty
empty [] e = refl
empty (x ∷ l) e = absurd (false≢true (sym e))

not_none : (x : ℕ) (l : List ℕ) {A : Type 0} → ◌≡◌ {A = List ℕ} (x ∷ l) [] → A
not_none x l e = let z : ◌≡◌ {A = ℕ} 0 1 = cc in absurd (omega arith)

-- more of the input comes only before its end
more_comes : (piece came : List ℕ) (over : Bool) (more : List ℕ) → (next_over piece came over ≡ true → more ≡ []) → over ≡ true
    → brought piece came over ++ more ≡ []
unfolding is_empty
more_comes piece came false more h e = absurd (false≢true e)
more_comes [] came true more h e = h refl
more_comes (p ∷ piece) came true more h e = h refl

module _ (longest : ℕ) (some : 1 ≤ longest) where
  left_turned : (line piece came : List ℕ) (over : Bool) → (over ≡ true → (piece ≡ []) × (line ≡ [])) → (more : List ℕ)
      → (next_over piece came over ≡ true → more ≡ []) → left_of longest false over line piece (brought piece came over ++ more)
      ≡ left_of longest
      (line_ends (next_piece piece came over) (next_over piece came over) (next_line longest some line (next_piece piece came over)))
      (next_over piece came over) (next_line longest some line (next_piece piece came over))
      (past_newline (next_piece piece came over)) more
  unfolding line_ends has_newline up_to_newline past_newline left_of is_empty
  left_turned line [] came true end more h = rw (h refl) (none_taken longest some line (end refl).1)
  left_turned line (p ∷ piece) came true end more h = not_none p piece (end refl).0
  left_turned line [] [] false end more h = rw (h refl) (last_taken longest some line)
  left_turned line [] (x ∷ came) false end more h = part_taken_lem longest some line (x ∷ came) more
  left_turned line (p ∷ piece) came false end more h = part_taken_lem longest some line (p ∷ piece) more

  -- at the end of the input nothing is left of the piece, and of a line only what is ready
  end_turned : (line piece came : List ℕ) (over : Bool) → (over ≡ true → (piece ≡ []) × (line ≡ [])) → next_over piece came over ≡ true
      → (past_newline (next_piece piece came over) ≡ [])
      × (line_ends (next_piece piece came over) (next_over piece came over)
      (next_line longest some line (next_piece piece came over)) ≡ false
      → next_line longest some line (next_piece piece came over) ≡ [])
  unfolding line_ends has_newline up_to_newline past_newline is_empty
  end_turned line [] came true end e = (refl, empty _)
  end_turned line (p ∷ piece) came true end e = not_none p piece (end refl).0
  end_turned line [] [] false end e = (refl, empty _)
  end_turned line [] (x ∷ came) false end e = absurd (false≢true e)
  end_turned line (p ∷ piece) came false end e = absurd (false≢true e)

-- ---- what waits

due_first : (room : ℕ) (s : Standing) → due room s ++ not_due room s ≡ s.waiting
unfolding due not_due
due_first room s = go (writes room s)
  where
    go : (b : Bool) → cond b s.waiting [] ++ cond b [] s.waiting ≡ s.waiting
    go true = append-nil s.waiting
    go false = refl

half_left : (room : ℕ) (s : Standing) → length (not_due room s) ≤ room / 2
unfolding not_due writes
half_left room s = go (is_empty s.piece) (ltb (room / 2) (length s.waiting)) refl
  where
    go : (a b : Bool) → ltb (room / 2) (length s.waiting) ≡ b → length (cond (a || b) [] s.waiting) ≤ room / 2
    go true b e = omega arith
    go false true e = omega arith
    go false false e = ltb-false (room / 2) (length s.waiting) e

flatten_more : (ls : List (List ℕ)) (l : List ℕ) → flatten (ls ++ (l ∷ [])) ≡ flatten ls ++ l
unfolding flatten
flatten_more [] l = append-nil l
flatten_more (x ∷ ls) l = ap (λ (y : List ℕ). x ++ y) (flatten_more ls l) ∙ sym (append_assoc x (flatten ls) l)

-- ---- what was read, unless a write failed before it

input_failed : (input came : List ℕ) (b : Bool) → input ≡ input ++ cond (b && not true) came []
input_failed input came b = rw (and-false b) (sym (append-nil input))

input_read : (input came more : List ℕ) (b : Bool) → input ++ (cond b came [] ++ more) ≡ input ++ cond (b && not false) came [] ++ more
input_read input came more b = rw (and-true b) (sym (append_assoc input (cond b came []) more))

-- ---- the end, and no write failed

end_is : (s : Standing) → ended s ≡ true → s.failed ≡ false → (s.over ≡ true) × (s.ready ≡ false) × (s.waiting ≡ [])
unfolding ended is_empty
end_is s is fine = go s.over s.ready s.waiting (rw fine at is)
  where
    go : (over ready : Bool) (l : List ℕ) → (over && not ready && is_empty l) ≡ true → (over ≡ true) × (ready ≡ false) × (l ≡ [])
    go false ready l e = absurd (false≢true e)
    go true true l e = absurd (false≢true e)
    go true false [] e = (refl, refl, refl)
    go true false (x ∷ l) e = absurd (false≢true e)

-- ---- every run

chain_more : {S : Type 0} (Answers : Answering S) (state last : S) (gs : List (Given S)) (g : Given S)
    → Chain Answers state gs last → Answers last g.line g.text g.after → Chain Answers state (gs ++ (g ∷ [])) g.after
unfolding Chain
chain_more Answers state last [] g e is = (rw e is, refl)
chain_more Answers state last (x ∷ gs) g c is = (c.0, chain_more Answers x.after last gs g c.1 is)

-- the line is answered: those that are left are the others
left_answered : (longest : ℕ) (over : Bool) (piece more : List ℕ) → (over ≡ true → piece ++ more ≡ [])
    → left_of longest false over [] piece more ≡ map (take longest) (lines (piece ++ more))
unfolding left_of lines
left_answered longest true piece more end = ap (λ (l : List ℕ). map (take longest) (lines l)) (sym (end refl))
left_answered longest false piece more end = ap (map (take longest)) (before_none (lines (piece ++ more)))

module _ {S : Type 0} (Answers : Answering S) (first : S) (longest room : ℕ) (some : 1 ≤ longest) where
  abbrev line_of : Given S → List ℕ
  line_of g = g.line

  abbrev text_of : Given S → List ℕ
  text_of g = g.text

  -- what each turn and each answer keeps true
  record Agrees (h : History S) (state : S) (s : Standing) : Type 0 where
    coming : (more : List ℕ) → (s.over ≡ true → more ≡ [])
        → map line_of h.given ++ left_of longest s.ready s.over s.line s.piece more
        ≡ map (take longest) (lines (h.input ++ more))
    at_end : s.over ≡ true → (s.piece ≡ []) × (s.ready ≡ false → s.line ≡ [])
    waits : h.output ++ s.waiting ≡ flatten (map text_of h.given)
    half : s.ready ≡ true → length s.waiting ≤ room / 2
    chain : Chain Answers first h.given state

  agrees : {h : History S} {state : S} {s : Standing} → Run Answers first longest room h state s → Agrees h state s
  unfolding left_of advanced stopped exchanged part_taken reads answered Chain flatten
  agrees begin = record {
    coming = λ more end. ap (map (take longest)) (before_none (lines more));
    at_end = λ e. absurd (false≢true e);
    waits = refl;
    half = λ e. absurd (false≢true e);
    chain = refl;
  }
  agrees (turn {h} {state} {s} run idle true came) =
      let a = agrees run in
      record {
        coming = λ more end.
            a.coming more end
            ∙ ap (λ (l : List ℕ). map (take longest) (lines (l ++ more))) (input_failed h.input came (reads s));
        at_end = a.at_end;
        waits = rw (append-nil h.output) a.waits;
        half = a.half;
        chain = a.chain;
      }
  agrees (turn {h} {state} {s} run idle false came) =
      let a = agrees run in
      let end : s.over ≡ true → (s.piece ≡ []) × (s.line ≡ []) = λ e. ((a.at_end e).0, (a.at_end e).1 idle) in
      record {
        coming = λ more h'.
            ap (λ (ls : List (List ℕ)). map line_of h.given ++ ls)
            (sym (left_turned longest some s.line s.piece came s.over end more h'))
            ∙ (rw idle at (a.coming (brought s.piece came s.over ++ more) (more_comes s.piece came s.over more h')))
            ∙ ap (λ (l : List ℕ). map (take longest) (lines l)) (input_read h.input came more (reads s));
        at_end = end_turned longest some s.line s.piece came s.over end;
        waits = append_assoc h.output (due room s) (not_due room s) ∙ ap (λ (l : List ℕ). h.output ++ l) (due_first room s) ∙ a.waits;
        half = λ e. half_left room s;
        chain = a.chain;
      }
  agrees (answer {h} {state} {s} run ready text after is fits) =
      let a = agrees run in
      let g : Given S = record { line = s.line; text = text; after = after } in
      record {
        coming = λ more end.
            let none : s.over ≡ true → s.piece ++ more ≡ [] = λ e. ap₂ (λ (x y : List ℕ). x ++ y) (a.at_end e).0 (end e) in
            rw (map-append line_of h.given (g ∷ []))
            (append_snoc (map line_of h.given) s.line (left_of longest false s.over [] s.piece more)
            ∙ ap (λ (ls : List (List ℕ)). map line_of h.given ++ (s.line ∷ ls)) (left_answered longest s.over s.piece more none)
            ∙ (rw ready at (a.coming more end)));
        at_end = λ e. ((a.at_end e).0, λ _. refl);
        waits =
            let fit : length (s.waiting ++ text) ≤ room = rw (length-append s.waiting text) (omega (arith, a.half ready)) in
            ap (λ (l : List ℕ). h.output ++ l) (take_all room (s.waiting ++ text) fit)
            ∙ sym (append_assoc h.output s.waiting text)
            ∙ ap (λ (l : List ℕ). l ++ text) a.waits
            ∙ sym (ap flatten (map-append text_of h.given (g ∷ [])) ∙ flatten_more (map text_of h.given) text);
        half = λ e. absurd (false≢true e);
        chain = chain_more Answers first state h.given g a.chain is;
      }

  -- ---- the claim

  at_the_end : {h : History S} {state : S} {s : Standing} → Run Answers first longest room h state s → ended s ≡ true → s.failed ≡ false
      → Served Answers first longest room h state
  unfolding left_of
  at_the_end {h} {state} {s} run is fine =
      let a = agrees run in
      let e = end_is s is fine in
      record {
        lines_are =
            sym (append-nil (map line_of h.given))
            ∙ (rw (e.0, e.1) at (a.coming [] (λ _. refl)))
            ∙ ap (λ (l : List ℕ). map (take longest) (lines l)) (append-nil h.input);
        texts_are = sym (append-nil h.output) ∙ ap (λ (l : List ℕ). h.output ++ l) (sym e.2) ∙ a.waits;
        states_are = a.chain;
      }

  at_any_moment : {h : History S} {state : S} {s : Standing} → Run Answers first longest room h state s
      → SoFar Answers first longest room h state s
  at_any_moment {h} {state} {s} run =
      let a = agrees run in
      record {
        to_come = left_of longest s.ready s.over s.line s.piece [];
        lines_are = a.coming [] (λ _. refl) ∙ ap (λ (l : List ℕ). map (take longest) (lines l)) (append-nil h.input);
        texts_are = a.waits;
        states_are = a.chain;
      }

  pub claim : Claim Answers first longest room
  claim = record { at_the_end = at_the_end; at_any_moment = at_any_moment }

-- ---- programs whose answer is a function

-- a program that does not see past what the line buffer holds
module _ {S : Type 0} (answer : S → (line : List ℕ) → Answer S) (longest : ℕ)
    (cut : (state : S) (line : List ℕ) → answer state (take longest line) ≡ answer state line) where
  texts : (state last : S) (gs : List (Given S)) (ls : List (List ℕ)) → Chain (Gives answer) state gs last
      → map (λ (g : Given S). g.line) gs ≡ map (take longest) ls → flatten (map (λ (g : Given S). g.text) gs) ≡ transcript answer state ls
  unfolding Chain flatten transcript
  texts state last [] [] c e = refl
  texts state last [] (l ∷ ls) c e = let z : ◌≡◌ {A = ℕ} 0 1 = cc in absurd (omega arith)
  texts state last (g ∷ gs) [] c e = let z : ◌≡◌ {A = ℕ} 0 1 = cc in absurd (omega arith)
  texts state last (g ∷ gs) (l ∷ ls) c e =
      let line : g.line ≡ take longest l = cc in
      let rest : map (λ (x : Given S). x.line) gs ≡ map (take longest) ls = cc in
      let is : record { text = g.text; after = g.after } ≡ answer state l = c.0 ∙ ap (answer state) line ∙ cut state l in
      ap (λ (t : List ℕ). g.text ++ t) (texts g.after last gs ls c.1 rest)
      ∙ ap (λ (x : Answer S). x.text ++ transcript answer x.after ls) is

  pub answers_all : (first : S) (room : ℕ) → 1 ≤ longest → AnswersAll answer first longest room
  answers_all first room some h state standing run is fine =
      let s = at_the_end (Gives answer) first longest room some run is fine in
      s.texts_are ∙ texts first state h.given (lines h.input) s.states_are s.lines_are
