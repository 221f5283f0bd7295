-- The table of editions: each index has its place. Assumes nothing.
use Prim.Native.Nat.{ℕ, zero, suc, ◌+◌, ◌-◌, ◌*◌, ◌^◌, ◌≤◌, ◌<◌}
use mathlib.Core.Bool.{true, and-eq-true_iff}
use mathlib.Core.Path.{◌≡◌, refl, sym, subst}
use native.Mathlib.Omega.{arith}
use borrow.Author.Tests.{leb-true}
use lib.Dec.{leb}
use lib.ListN.{length}
use lib.Pow.{pow_pos}
use Rattle.aka.specs.Sequence.{Fitting, sqn_bits, width_of, indices, limit}
use Rattle.aka.specs.Editions.{Edition, first, second, table, is_edition, row_of, card_places, editions}
use Rattle.aka.specs.Window.{Wide}
use Rattle.aka.proofs.Sequence.{sqn_lt}

-- edition 2 has its own row; any other number that of edition 1
pub row_2 : row_of 2 ≡ second
unfolding row_of
row_2 = refl

pub row_other : (edition : ℕ) → (edition ≡ 2 → ⊥) → row_of edition ≡ first
unfolding row_of
row_other zero ne = refl
row_other (suc zero) ne = refl
row_other (suc (suc zero)) ne = absurd (ne refl)
row_other (suc (suc (suc edition))) ne = let at : suc (suc (suc edition)) - 1 ≡ suc (suc edition) = omega arith in rw at

-- what holds of both rows holds of every number's
pub each_row : (P : Edition → Type 0) → P first → P second → (edition : ℕ) → P (row_of edition)
unfolding row_of
each_row P one two zero = one
each_row P one two (suc zero) = one
each_row P one two (suc (suc zero)) = two
each_row P one two (suc (suc (suc edition))) =
    let at : suc (suc (suc edition)) - 1 ≡ suc (suc edition) = omega arith in rw at one

pub fitting : Fitting editions
fitting = record {
  width = each_row (λ row. row.numbering.width ≤ sqn_bits) (omega arith) (omega arith);
  places = each_row (λ row. indices row.numbering.width ≤ card_places) (omega arith) (omega arith);
}

pub limit_below : (edition : ℕ) → limit (width_of editions edition) < 2 ^ sqn_bits
limit_below = each_row (λ row. limit row.numbering.width < 2 ^ sqn_bits) (omega arith) (omega arith)

-- from edition 2 on the index goes up for each vector, and comes again after 64
pub later_wide : (edition : ℕ) → is_edition edition ≡ true → 2 ≤ edition → Wide editions edition
unfolding is_edition row_of
later_wide edition known late =
    let within = ((and-eq-true_iff (leb 1 edition) (leb edition (length table))).0 known).1 in
    let is : edition ≡ 2 = omega (arith, leb-true edition 2 within) in
    subst (Wide editions) (sym is) (record { each = refl; enough = omega arith })

-- of whichever edition, an SQN with a SEQ within its limit has 48 bits
pub room : (edition seq : ℕ) → seq ≤ limit (width_of editions edition) → indices (width_of editions edition) * seq < 2 ^ sqn_bits
room edition seq h =
    let w = width_of editions edition in
    omega (arith, sqn_lt w (fitting.width edition) seq 0 h (pow_pos w))
