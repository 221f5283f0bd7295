-- The run with a place, from the place's own octets. Assumes nothing.
use Prim.Native.Nat.{ℕ, ◌+◌, ◌-◌, ◌<◌}
use mathlib.Core.Bool.{Bool, true, false, cond, true≢false}
use mathlib.Core.List.{[]}
use mathlib.Core.Path.{◌≡◌, refl, sym, ap, ◌∙◌}
use native.Mathlib.Omega.{arith}
use borrow.Author.Tests.{ne_eqb}
use lib.ListN.{length, get_or, take, drop, drop_of_length-le}
use lib.Seq.{drop-drop}
use Rattle.octets.specs.Octets.{Octets, zeros, part}
use Rattle.octets.proofs.Copies.{rest}
use Rattle.aka.specs.Layout.{Kind, vector, triplet, rand_size, ck_at, ck_size, ik_at, ik_size, autn_at, autn_size, xres_at, kc_at, kc_size}
use Rattle.aka.specs.Layout.{kind_size, read_vector, read_triplet, triplet_size, vector_size}
use Rattle.aka.specs.Vlr.{Run, place_size, place_at, good_places, kind_in, item_in, vector_run, triplet_run, run_of}
use Rattle.aka.specs.Vlr.{run_in, res_size_of, all_zero, good_place}
use Rattle.aka.proofs.VlrPlaces.{good_each}
use Rattle.vlr_places.specs.declared.Kind.TheVariants.{Vector, Triplet}
use Rattle.vlr_places.specs.Views.{is_kind}

-- ---- the run

module _ (place : Octets) where
  -- octets of the item
  of_item : (at n : ℕ) → part (kind_size + at) n place ≡ part at n (item_in place)
  of_item at n = ap (take n) (sym (drop-drop at kind_size place))

  pub rand_is : part kind_size rand_size place ≡ (run_in place).rand
  unfolding vector_run triplet_run read_vector read_triplet
  rand_is = go (kind_in place)
    where
      go : (kind : Kind) → part kind_size rand_size place ≡ (run_of kind (item_in place)).rand
      go vector = refl
      go triplet = refl

  pub response_is : part (kind_size + xres_at) (res_size_of (kind_in place)) place ≡ (run_in place).response
  unfolding vector_run triplet_run read_vector read_triplet
  response_is = go (kind_in place)
    where
      go : (kind : Kind) → part (kind_size + xres_at) (res_size_of kind) place ≡ (run_of kind (item_in place)).response
      go vector = of_item xres_at (res_size_of vector)
      go triplet = of_item xres_at (res_size_of triplet)

  -- what a vector has and a triplet has not
  part_or_zeros : (field : Run → Octets) (at n : ℕ) → field (run_of vector (item_in place)) ≡ part at n (item_in place)
      → field (run_of triplet (item_in place)) ≡ zeros n
      → cond (is_kind Vector (kind_in place)) (part (kind_size + at) n place) (zeros n) ≡ field (run_in place)
  part_or_zeros field at n of_vector of-triplet = go (kind_in place)
    where
      go : (kind : Kind) → cond (is_kind Vector kind) (part (kind_size + at) n place) (zeros n) ≡ field (run_of kind (item_in place))
      go vector = of_item at n ∙ sym of_vector
      go triplet = sym of-triplet

  pub autn_is : cond (is_kind Vector (kind_in place)) (part (kind_size + autn_at) autn_size place) (zeros autn_size) ≡ (run_in place).autn
  unfolding vector_run triplet_run read_vector
  autn_is = part_or_zeros (λ run. run.autn) autn_at autn_size refl refl

  pub ck_is : cond (is_kind Vector (kind_in place)) (part (kind_size + ck_at) ck_size place) (zeros ck_size) ≡ (run_in place).ck
  unfolding vector_run triplet_run read_vector
  ck_is = part_or_zeros (λ run. run.ck) ck_at ck_size refl refl

  pub ik_is : cond (is_kind Vector (kind_in place)) (part (kind_size + ik_at) ik_size place) (zeros ik_size) ≡ (run_in place).ik
  unfolding vector_run triplet_run read_vector
  ik_is = part_or_zeros (λ run. run.ik) ik_at ik_size refl refl

  pub kc_is : cond (is_kind Triplet (kind_in place)) (part (kind_size + kc_at) kc_size place) (zeros kc_size) ≡ (run_in place).kc
  unfolding vector_run triplet_run read_triplet
  kc_is = go (kind_in place)
    where
      go : (kind : Kind)
          → cond (is_kind Triplet kind) (part (kind_size + kc_at) kc_size place) (zeros kc_size) ≡ (run_of kind (item_in place)).kc
      go vector = refl
      go triplet = of_item kc_at kc_size

  -- ---- a good place, by the octet of its kind

  -- nothing stands behind a vector
  pub good_vector : length place ≡ place_size → get_or place 0 0 ≡ 0 → good_place place ≡ true
  unfolding good_place all_zero
  good_vector size e =
      let behind : drop vector_size (item_in place) ≡ []
      = drop-drop vector_size kind_size place ∙ drop_of_length-le place {i = kind_size + vector_size} (omega arith) in
      rw (e, behind)

  pub bad_kind : (get_or place 0 0 ≡ 0 → ⊥) → (get_or place 0 0 ≡ 1 → ⊥) → good_place place ≡ false
  unfolding good_place
  bad_kind other another = rw (ne_eqb (get_or place 0 0) 0 other, ne_eqb (get_or place 0 0) 1 another)

  -- what stands behind a triplet decides, taken as the code takes it
  pub good_triplet : get_or place 0 0 ≡ 1
      → good_place place ≡ all_zero (take (length place - (kind_size + triplet_size)) (drop (kind_size + triplet_size) place))
  unfolding good_place
  good_triplet e =
      rw (e, rest place (kind_size + triplet_size) (length place) refl) (ap all_zero (drop-drop triplet_size kind_size place))

-- one bad place is enough
pub bad_place : (queue : Octets) (n k : ℕ) → k < n → good_place (place_at queue k) ≡ false → good_places queue n ≡ false
bad_place queue n k lt e = go (good_places queue n) refl
  where
    go : (b : Bool) → good_places queue n ≡ b → good_places queue n ≡ false
    go true t = absurd (true≢false (sym ((good_each queue n).0 t k lt) ∙ e))
    go false f = f
