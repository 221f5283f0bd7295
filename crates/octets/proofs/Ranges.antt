-- Laws of `Below`: lists whose elements are below a base. Assumes nothing.
use Prim.Native.Nat.{ℕ, zero, suc, ◌+◌, ◌^◌, ◌<◌}
use mathlib.Core.List.{List, [], ◌∷◌, ◌++◌, map}
use native.Mathlib.Omega.{arith}
use lib.Bits.{xor_lt}
use lib.ListN.{get_or, drop, length-take}
use lib.Seq.{get_or-take, get_or-drop}
use Rattle.octets.specs.Octets.{Octets, part, xor, Below}

module _ (base : ℕ) where
  pub below_none : Below base []
  below_none i h = absurd (omega arith)

  pub below_cons : {a : ℕ} (l : List ℕ) → a < base → Below base l → Below base (a ∷ l)
  below_cons l h b zero g = h
  below_cons l h b (suc i) g = b i (omega arith)

  pub below_append : (l m : List ℕ) → Below base l → Below base m → Below base (l ++ m)
  below_append [] m a b = b
  below_append (x ∷ l) m a b = below_cons (l ++ m) (a 0 (omega arith)) (below_append l m (λ i h. a (suc i) (omega arith)) b)

  pub below_map : (f : ℕ → ℕ) (l : List ℕ) → ((x : ℕ) → f x < base) → Below base (map f l)
  below_map f [] h = below_none
  below_map f (x ∷ l) h = below_cons (map f l) (h x) (below_map f l h)

  -- at any place, also past the end
  pub below_at : (l : List ℕ) (i : ℕ) → 0 < base → Below base l → get_or l i 0 < base
  below_at [] i p b = p
  below_at (x ∷ l) zero p b = b 0 (omega arith)
  below_at (x ∷ l) (suc i) p b = below_at l i p (λ j h. b (suc j) (omega arith))

  pub below_part : (start size : ℕ) (l : List ℕ) → 0 < base → Below base l → Below base (part start size l)
  below_part start size l p b i h =
      let inside : i < size = omega (arith, length-take size (drop start l)) in
      rw (get_or-take size (drop start l) i 0 inside, get_or-drop start l i 0) (below_at l (start + i) p b)

pub below_xor : (k : ℕ) (x y : Octets) → Below (2 ^ k) x → Below (2 ^ k) y → Below (2 ^ k) (xor x y)
unfolding xor
below_xor k [] y a b = below_none (2 ^ k)
below_xor k (c ∷ x) [] a b = below_none (2 ^ k)
below_xor k (c ∷ x) (d ∷ y) a b =
    below_cons (2 ^ k) (xor x y) (xor_lt k c d (a 0 (omega arith)) (b 0 (omega arith)))
    (below_xor k x y (λ i h. a (suc i) (omega arith)) (λ i h. b (suc i) (omega arith)))
