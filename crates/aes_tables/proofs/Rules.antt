-- The rules of the two tables, each by one computed test over the table that the code has, and that the inverse is one. Assumes nothing.
use Prim.Native.Nat.{ℕ, ◌≤◌}
use mathlib.Core.Bool.{Bool, true, ◌||◌}
use mathlib.Core.List.{List}
use mathlib.Core.Path.{◌≡◌, refl, sym, ap, ◌∙◌}
use native.Mathlib.Omega.{arith}
use borrow.Author.Tests.{eqb-true, ne_eqb}
use lib.Dec.{eqb}
use lib.ListN.{length, get_or}
use Rattle.octets.specs.Octets.{zeros, spelt, equal, encode}
use Rattle.octets.proofs.Strings.{equal_true}
use Rattle.octets.proofs.Tables.{every, entry}
use Rattle.gf256.specs.Field.{xtime, halving, times}
use Rattle.aes_tables.specs.Sbox.{squares, inverse, affine_bit, affine, sbox, IsSbox, SboxLaws}
use Rattle.aes_tables.specs.RoundTable.{contribution, IsRoundTable}

-- ---- the tables

-- an entry s at x
unfoldable pub is_entry : ℕ → ℕ → Bool
is_entry x s = eqb s (sbox x)

pub sbox_rule : (table : List ℕ) → 256 ≤ length table → every is_entry 0 table ≡ true → IsSbox table
unfolding is_entry IsSbox
sbox_rule table size test x h = eqb-true (get_or table x 0) (sbox x) (entry is_entry table x test (omega arith))

-- a word at x
unfoldable pub is_contribution : ℕ → ℕ → Bool
is_contribution x word = equal (encode 4 word) (contribution (sbox x))

pub round_rule : (table : List ℕ) → 256 ≤ length table → every is_contribution 0 table ≡ true → IsRoundTable table
unfolding is_contribution IsRoundTable
round_rule table size test x h =
    equal_true (encode 4 (get_or table x 0)) (contribution (sbox x)) (entry is_contribution table x test (omega arith))

-- ---- the inverse

is_inverse : ℕ → ℕ → Bool
is_inverse x _ = eqb x 0 || eqb (times x (inverse x)) 1

inverse_test : every is_inverse 0 (zeros 256) ≡ true
unfolding is_inverse xtime halving times squares inverse
inverse_test = refl

pub sbox_laws : SboxLaws
unfolding is_inverse spelt xtime halving times squares inverse affine_bit affine sbox
sbox_laws = record {
  inverse_right = λ x h n.
      eqb-true (times x (inverse x)) 1
      (ap (λ (b : Bool). b || eqb (times x (inverse x)) 1) (sym (ne_eqb x 0 n)) ∙ entry is_inverse (zeros 256) x inverse_test h);
  inverse_zero = refl;
  entry_0 = refl;
  entry_1 = refl;
}
