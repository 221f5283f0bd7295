-- Where the vector at place k begins in a batch. Assumes nothing.
use Prim.Native.Nat.{ℕ, ◌+◌, ◌*◌, ◌/◌, ◌%◌, ◌≤◌, ◌<◌}
use mathlib.Core.Bool.{Bool, true, false, ◌&&◌, cond, and-eq-true_iff}
use mathlib.Core.Option.{none, some}
use mathlib.Core.Path.{◌≡◌, refl}
use native.Mathlib.Nat.{mul-div_right, mul-mod_right}
use native.Mathlib.Omega.{arith}
use borrow.Author.Tests.{eqb-true, leb-true, ltb-true, le-leb, lt-ltb}
use lib.Dec.{eqb, ltb, leb}
use Rattle.octets.proofs.Absurd.{zero_not_one}
use Rattle.aka.specs.Layout.{vector_size, most_vectors, is_batch, is_place, vector_offset}
use Rattle.aka.specs.AucLaws.{PlaceOf}

-- ---- a batch of n vectors

pub record BatchOf (size n : ℕ) : Type 0 where
  pub whole : size ≡ vector_size * n
  pub some : 1 ≤ n
  pub most : n ≤ most_vectors

module _ (size : ℕ) where
  pub batch_of : is_batch size ≡ true → BatchOf size (size / vector_size)
  batch_of e =
      let low = leb vector_size size in
      let high = leb size (vector_size * most_vectors) in
      let three = (and-eq-true_iff (low && high) (eqb (size % vector_size) 0)).0 e in
      let two = (and-eq-true_iff low high).0 three.0 in
      let whole : size % vector_size ≡ 0 = eqb-true (size % vector_size) 0 three.1 in
      let least : vector_size ≤ size = leb-true vector_size size two.0 in
      let most : size ≤ vector_size * most_vectors = leb-true size (vector_size * most_vectors) two.1 in
      record { whole = omega arith; some = omega arith; most = omega arith }

  module _ (n : ℕ) (h : BatchOf size n) where
    pub how_many : size / vector_size ≡ n
    how_many = rw h.whole (mul-div_right n (omega arith))

    pub is_batch_lem : is_batch size ≡ true
    is_batch_lem =
        let low = le-leb vector_size (vector_size * n) (omega (arith, h.some)) in
        let high = le-leb (vector_size * n) (vector_size * most_vectors) (omega (arith, h.most)) in
        rw (h.whole, low, high, mul-mod_right vector_size n)

-- ---- place k

module _ (size k : ℕ) where
  pub place_of : is_place size k ≡ true → PlaceOf size k (size / vector_size)
  unfolding is_place
  place_of e =
      let both = (and-eq-true_iff (is_batch size) (ltb k (size / vector_size))).0 e in
      let batch = batch_of size both.0 in
      record { whole = batch.whole; most = batch.most; inside = ltb-true k (size / vector_size) both.1 }

  pub at_offset : (n : ℕ) → PlaceOf size k n → vector_offset size k ≡ some (vector_size * k)
  unfolding vector_offset is_place
  at_offset n h =
      let batch : BatchOf size n = record { whole = h.whole; some = omega (arith, h.inside); most = h.most } in
      rw (is_batch_lem size n batch, how_many size n batch, lt-ltb k n h.inside)

  pub no_offset : ((n : ℕ) → PlaceOf size k n → ⊥) → vector_offset size k ≡ none
  unfolding vector_offset
  no_offset h = go (is_place size k) refl
    where
      go : (b : Bool) → is_place size k ≡ b → cond b (some (vector_size * k)) none ≡ none
      go true e = absurd (h (size / vector_size) (place_of e))
      go false e = refl

  -- an offset is that of place k, and a vector fits behind it
  pub record Inside (offset : ℕ) : Type 0 where
    pub at : offset ≡ vector_size * k
    pub fits : offset + vector_size ≤ size
    pub place : k < most_vectors

  pub offset_inside : (offset : ℕ) → vector_offset size k ≡ some offset → Inside offset
  unfolding vector_offset
  offset_inside offset e = go (is_place size k) refl e
    where
      go : (b : Bool) → is_place size k ≡ b → cond b (some (vector_size * k)) none ≡ some offset → Inside offset
      go true t q =
          let p = place_of t in
          let at : vector_size * k ≡ offset = cc in
          record { at = omega arith; fits = omega (arith, p.whole, p.inside); place = omega (arith, p.most, p.inside) }
      go false t q = zero_not_one (cc)
