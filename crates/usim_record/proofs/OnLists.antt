-- `aka`'s words on the places in the library's words on lists. Assumes nothing.
use Prim.Native.Nat.{ℕ, ◌≤◌, max}
use mathlib.Core.Bool.{Bool, true, false, ◌&&◌, not, cond}
use mathlib.Core.List.{List, [], ◌∷◌}
use mathlib.Core.Path.{◌≡◌, refl, ap}
use native.Mathlib.Omega.{arith}
use borrow.Author.Tests.{ltb-false}
use lib.Dec.{eqb, ltb, leb}
use lib.ListN.{length}
use Rattle.std.specs.List.{list_all, position_or_len, fold}
use Rattle.std.specs.Option.{unwrap_or}
use Rattle.std.specs.Prelude.{Option, Some, None}
use Rattle.std.proofs.lemmas.List.Recursion.{same_from_clauses, is_position_or_len}
use Rattle.std.proofs.lemmas.List.Sums.{prefix_len-le-length}
use Rattle.aka.specs.Layout.{all_zero}
use Rattle.aka.specs.Usim.{all_within, highest, lowest_index}

pub within_all : (most : ℕ) (l : List ℕ) → all_within most l ≡ list_all (λ p. leb p most) l
unfolding all_within
within_all most =
    same_from_clauses (all_within most) (list_all (λ p. leb p most)) (λ p rest. leb p most && rest) refl (λ p l. refl) (λ p l. refl)

pub zero_all : (l : List ℕ) → all_zero l ≡ list_all (λ p. eqb p 0) l
unfolding all_zero
zero_all = same_from_clauses all_zero (list_all (λ p. eqb p 0)) (λ p rest. eqb p 0 && rest) refl (λ p l. refl) (λ p l. refl)

pub lowest_position : (seq : ℕ) (l : List ℕ) → lowest_index seq l ≡ position_or_len (λ p. eqb p seq) l
unfolding lowest_index
lowest_position seq =
    is_position_or_len (lowest_index seq) (λ p. eqb p seq) refl (λ p l. ap (λ (n : ℕ). cond (eqb p seq) 0 n) (omega arith))

-- what `position` answers, and the length where it answers nothing
pub lowest_found : (seq : ℕ) (l : List ℕ) {r : Option ℕ}
    → r ≡ cond (ltb (position_or_len (λ p. eqb p seq) l) (length l)) (Some (position_or_len (λ p. eqb p seq) l)) None
    → (unwrap_or r (length l) ≡ lowest_index seq l) × (unwrap_or r (length l) ≤ length l)
lowest_found seq l is = rw (is, lowest_position seq l) (go _ (length l) (prefix_len-le-length (λ p. not (eqb p seq)) l))
  where
    go : (i n : ℕ) → i ≤ n → (unwrap_or (cond (ltb i n) (Some i) None) n ≡ i) × (unwrap_or (cond (ltb i n) (Some i) None) n ≤ n)
    go i n h = with_test (ltb i n) refl
      where
        with_test : (b : Bool) → ltb i n ≡ b → (unwrap_or (cond b (Some i) None) n ≡ i) × (unwrap_or (cond b (Some i) None) n ≤ n)
        with_test true e = (refl, h)
        with_test false e = (omega (arith, ltb-false i n e), omega arith)

max_fold : (most : ℕ) (l : List ℕ) → max most (highest l) ≡ fold max most l
unfolding highest
max_fold most [] = omega arith
max_fold most (p ∷ l) = rw (← max_fold (max most p) l) (omega arith)

pub highest_fold : (l : List ℕ) → highest l ≡ fold max 0 l
highest_fold l = rw (← max_fold 0 l) (omega arith)
