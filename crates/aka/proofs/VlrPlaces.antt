-- Laws of the VLR's places: an item in its place, the places of a batch, and which places are good. Assumes nothing.
use Prim.Native.Nat.{ℕ, zero, suc, ◌+◌, ◌-◌, ◌*◌, ◌≤◌, ◌<◌}
use mathlib.Core.Bool.{Bool, true, false, ◌&&◌, ◌||◌, and-eq-true_iff}
use mathlib.Core.List.{◌++◌, append-nil}
use mathlib.Core.Logic.{◌⊎◌, inl, inr, ◌↔◌, ⊎_elim}
use mathlib.Core.Path.{◌≡◌, refl, ap, ◌∙◌}
use native.Mathlib.Nat.{eq-or-lt_of_le}
use native.Mathlib.Numerals.{add-one}
use native.Mathlib.Omega.{arith}
use borrow.Author.Tests.{eqb-true, eq-eqb}
use lib.Dec.{eqb}
use lib.ListN.{length, get_or, drop, length-append}
use lib.Seq.{drop_at}
use Rattle.octets.specs.Octets.{Octets, zeros}
use Rattle.octets.proofs.Parts.{length_part}
use Rattle.aka.specs.Layout.{Kind, vector, triplet, kind_octet, item_size, vector_size, read_vector, read_triplet}
use Rattle.aka.specs.Layout.{rand_size, res_size, xres_at, sres_at, sres_size, kc_at, kc_size}
use Rattle.aka.specs.Vlr.{place_size, placed, place_at, item_of, places_of, kind_in, item_in, run_of, run_in, triplet_run, all_zero}
use Rattle.aka.specs.Vlr.{vector_run, res_size_of, holds, good_place, good_places}
use Rattle.aka.specs.VlrLaws.{Holds, Good}
use Rattle.aka.proofs.Layouts.{length_joined, part_joined}
use Rattle.aka.proofs.Held.{all_zeros, length_zeros, zero_from, part_before}

-- ---- good places

holds_iff : (kind : Kind) (place : Octets) → (holds kind place ≡ true) ↔ Holds kind place
holds_iff kind place = (
  λ e.
      let both = (and-eq-true_iff (eqb (get_or place 0 0) (kind_octet kind)) (all_zero (drop (item_size kind) (item_in place)))).0 e in
      (eqb-true (get_or place 0 0) (kind_octet kind) both.0, (zero_from (item_size kind) (item_in place)).0 both.1),
  λ h. rw (eq-eqb (get_or place 0 0) (kind_octet kind) h.0) ((zero_from (item_size kind) (item_in place)).1 h.1),
)

pub good_iff : (place : Octets) → (good_place place ≡ true) ↔ Good place
unfolding good_place
good_iff place = (
  λ e. go (holds vector place) refl e,
  λ g. ⊎_elim (λ h. rw ((holds_iff vector place).1 h)) (λ h. either (holds vector place) ((holds_iff triplet place).1 h)) g,
)
  where
    go : (b : Bool) → holds vector place ≡ b → (b || holds triplet place) ≡ true → Good place
    go true e t = inl ((holds_iff vector place).0 e)
    go false e t = inr ((holds_iff triplet place).0 t)

    either : (b : Bool) → holds triplet place ≡ true → (b || holds triplet place) ≡ true
    either true h = refl
    either false h = h

pub good_next : (queue : Octets) (n : ℕ) → good_places queue (n + 1) ≡ (good_places queue n && good_place (place_at queue n))
unfolding good_places
good_next queue n = rw (add-one n)

pub good_each : (queue : Octets) (n : ℕ) → (good_places queue n ≡ true) ↔ ((k : ℕ) → k < n → good_place (place_at queue k) ≡ true)
unfolding good_places
good_each queue n = (to n, from n)
  where
    to : (n : ℕ) → good_places queue n ≡ true → (k : ℕ) → k < n → good_place (place_at queue k) ≡ true
    to zero e k lt = absurd (omega arith)
    to (suc n) e k lt =
        let both = (and-eq-true_iff (good_places queue n) (good_place (place_at queue n))).0 e in
        ⊎_elim (λ same. ap (λ (j : ℕ). good_place (place_at queue j)) same ∙ both.1) (λ below. to n both.0 k below)
        (eq-or-lt_of_le (omega arith))

    from : (n : ℕ) → ((k : ℕ) → k < n → good_place (place_at queue k) ≡ true) → good_places queue n ≡ true
    from zero each = refl
    from (suc n) each = rw (from n (λ k lt. each k (omega arith))) (each n (omega arith))

-- ---- an item in its place

module _ (kind : Kind) (item : Octets) (size : length item ≡ item_size kind) where
  -- no item is longer than a vector
  pub item_fits : length item ≤ vector_size
  item_fits = go kind size
    where
      go : (k : Kind) → length item ≡ item_size k → length item ≤ vector_size
      go vector e = omega arith
      go triplet e = omega arith

  pub length_placed : length (placed kind item) ≡ place_size
  length_placed =
      let n = vector_size - length item in
      let fits = item_fits in
      let rest : length (item ++ zeros n) ≡ length item + n
      = length-append item (zeros n) ∙ ap (λ (m : ℕ). length item + m) (length_zeros n) in
      omega arith

  -- the octet of its kind, and zeros behind
  placed_holds : Holds kind (placed kind item)
  placed_holds =
      let behind = zeros (vector_size - length item) in (
        refl,
        (zero_from (item_size kind) (item ++ behind)).0
            (ap all_zero (drop_at item behind (item_size kind) size) ∙ all_zeros (vector_size - length item)),
      )

pub placed_good : (kind : Kind) (item : Octets) → length item ≡ item_size kind → good_place (placed kind item) ≡ true
placed_good vector item size = (good_iff (placed vector item)).1 (inl (placed_holds vector item size))
placed_good triplet item size = (good_iff (placed triplet item)).1 (inr (placed_holds triplet item size))

pub placed_kind : (kind : Kind) (item : Octets) → kind_in (placed kind item) ≡ kind
placed_kind vector item = refl
placed_kind triplet item = refl

pub response_size : (kind : Kind) (item : Octets) → length item ≡ item_size kind → length (run_of kind item).response ≡ res_size_of kind
unfolding vector_run triplet_run read_vector read_triplet
response_size vector item size = length_part xres_at res_size item (omega (arith, size))
response_size triplet item size = length_part sres_at sres_size item (omega (arith, size))

pub placed_run : (kind : Kind) (item : Octets) → length item ≡ item_size kind → run_in (placed kind item) ≡ run_of kind item
unfolding read_triplet
placed_run vector item size =
    let none : vector_size - length item ≡ 0 = omega arith in
    ap (λ (x : Octets). run_of vector x) (ap (λ (n : ℕ). item ++ zeros n) none ∙ append-nil item)
placed_run triplet item size =
    let behind = zeros (vector_size - length item) in
    ap triplet_run (λ i. record {
      rand = part_before 0 rand_size item behind (omega arith) i;
      sres = part_before sres_at sres_size item behind (omega arith) i;
      kc = part_before kc_at kc_size item behind (omega arith) i;
    })

-- ---- the places of a batch

module _ (kind : Kind) (batch : Octets) (count : ℕ) (size : length batch ≡ item_size kind * count) where
  pub length_item : (k : ℕ) → k < count → length (item_of kind batch k) ≡ item_size kind
  length_item k lt = length_part (item_size kind * k) (item_size kind) batch (go kind size)
    where
      go : (s : Kind) → length batch ≡ item_size s * count → item_size s * k + item_size s ≤ length batch
      go vector e = omega arith
      go triplet e = omega arith

  length_each : (k : ℕ) → k < count → length (placed kind (item_of kind batch k)) ≡ place_size
  length_each k lt = length_placed kind (item_of kind batch k) (length_item k lt)

  pub length_places : length (places_of kind batch count) ≡ place_size * count
  length_places = length_joined (λ k. placed kind (item_of kind batch k)) place_size count length_each

  pub place_of : (k : ℕ) → k < count → place_at (places_of kind batch count) k ≡ placed kind (item_of kind batch k)
  place_of k lt = part_joined (λ j. placed kind (item_of kind batch j)) place_size count length_each k lt

  pub place_good : (k : ℕ) → k < count → good_place (place_at (places_of kind batch count) k) ≡ true
  place_good k lt = ap good_place (place_of k lt) ∙ placed_good kind (item_of kind batch k) (length_item k lt)
