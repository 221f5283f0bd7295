-- The laws of the conversion into triplets, and two worked vectors. Assumes nothing.
use Prim.Native.Nat.{ℕ, ◌+◌, ◌-◌, ◌*◌, ◌/◌, ◌<◌}
use mathlib.Core.Bool.{Bool, true, false, cond, and-eq-true_iff}
use mathlib.Core.List.{[], ◌∷◌, ◌++◌}
use mathlib.Core.Path.{◌≡◌, refl, sym, ap, ap₂, ◌∙◌}
use native.Mathlib.Omega.{arith}
use borrow.Author.Tests.{eqb-true, eq-eqb}
use lib.Dec.{eqb}
use lib.ListN.{length, replicate}
use Rattle.octets.specs.Octets.{Octets, zeros, part, xor}
use Rattle.octets.proofs.Parts.{past, length_part}
use Rattle.octets.proofs.XorLaws.{length_xor, xor_zeros}
use Rattle.aka.specs.Layout.{Vector, triplet, rand_size, res_size, ck_size, ik_size, sres_size, kc_size, vector_size, triplet_size}
use Rattle.aka.specs.Layout.{xres_at, ck_at, ik_at, write_triplet, read_triplet, read_vector, vector_at, octets_at, is_batch}
use Rattle.aka.specs.Triplets.{padded, quarter, half, sres_of, kc_of, triplet_of, sizes_fit, triplets_of, convert, Converted}
use Rattle.aka.specs.Vlr.{item_of, triplet_run}
use Rattle.aka.specs.TripletLaws.{Sizes, TripletPromise}
use Rattle.aka.proofs.Layouts.{TripletSized, length_triplet, read_triplet_lem, length_joined, part_joined}
use Rattle.aka.proofs.Held.{part_before}
use Rattle.aka.proofs.Offsets.{BatchOf, batch_of, how_many, is_batch_lem}
use Rattle.aka.proofs.VlrPlaces.{placed_run, length_item}

-- ---- worked vectors

-- K 00 01 .. 0f, OPc and RAND zero: Kc is zero for this K
abbrev sample : Vector
sample = record {
  rand = zeros 16;
  xres = 0 ∷ 1 ∷ 2 ∷ 3 ∷ 4 ∷ 5 ∷ 6 ∷ 7 ∷ [];
  ck = 1 ∷ 2 ∷ 3 ∷ 4 ∷ 5 ∷ 6 ∷ 7 ∷ 8 ∷ 9 ∷ 10 ∷ 11 ∷ 12 ∷ 13 ∷ 14 ∷ 15 ∷ 0 ∷ [];
  ik = 2 ∷ 3 ∷ 4 ∷ 5 ∷ 6 ∷ 7 ∷ 8 ∷ 9 ∷ 10 ∷ 11 ∷ 12 ∷ 13 ∷ 14 ∷ 15 ∷ 0 ∷ 1 ∷ [];
  autn = zeros 16;
}

-- each octet of SRES and Kc has another value
abbrev other : Vector
other = record {
  rand = replicate 16 9;
  xres = 255 ∷ 1 ∷ 2 ∷ 4 ∷ 8 ∷ 16 ∷ 32 ∷ 64 ∷ [];
  ck = 1 ∷ 2 ∷ 4 ∷ 8 ∷ 16 ∷ 32 ∷ 64 ∷ 128 ∷ zeros 8;
  ik = zeros 8 ++ (128 ∷ 64 ∷ 32 ∷ 16 ∷ 8 ∷ 4 ∷ 2 ∷ 255 ∷ []);
  autn = zeros 16;
}

pub record Worked : Type 0 where
  pub sample_is : write_triplet (triplet_of sample) ≡ zeros 16 ++ replicate 4 4 ++ zeros 8
  pub other_is : write_triplet (triplet_of other)
      ≡ replicate 16 9 ++ (247 ∷ 17 ∷ 34 ∷ 68 ∷ []) ++ (129 ∷ 66 ∷ 36 ∷ 24 ∷ 24 ∷ 36 ∷ 66 ∷ 127 ∷ [])
  -- each limit of the sizes: one to five vectors
  pub none : (convert [] []).refusal ≡ 3
  pub one : (convert (zeros 72) (zeros 28)).refusal ≡ 0
  pub five : (convert (zeros 360) (zeros 140)).refusal ≡ 0
  pub six : (convert (zeros 432) (zeros 168)).refusal ≡ 3
  pub small : (convert (zeros 144) (zeros 28)).refusal ≡ 3
  pub broken : (convert (zeros 73) (zeros 28)).refusal ≡ 3

pub worked : Worked
unfolding triplet_of sres_of kc_of xor write_triplet convert sizes_fit
worked = record {
  sample_is = refl;
  other_is = refl;
  none = refl;
  one = refl;
  five = refl;
  six = refl;
  small = refl;
  broken = refl;
}

-- ---- SRES and Kc

-- the two quarters of XRES, with the padding
module _ (xres : Octets) (h : length xres ≡ res_size) where
  abbrev two : Octets
  two = xor (quarter 0 xres) (quarter 1 xres)

  length_two : length two ≡ sres_size
  length_two =
      let first = length_part 0 sres_size xres (omega arith) in
      let second = length_part sres_size sres_size xres (omega arith) in
      length_xor (quarter 0 xres) (quarter 1 xres) (omega arith) ∙ first

  pub eight : sres_of xres ≡ xor (quarter 0 xres) (quarter 1 xres)
  unfolding sres_of xor
  eight =
      let n : 16 - length xres ≡ 8 = omega arith in
      let pad : padded xres ≡ xres ++ zeros 8 = ap (λ (m : ℕ). xres ++ zeros m) n in
      let first : quarter 0 (padded xres) ≡ quarter 0 xres = ap (quarter 0) pad ∙ part_before 0 sres_size xres (zeros 8) (omega arith) in
      let second : quarter 1 (padded xres) ≡ quarter 1 xres
      = ap (quarter 1) pad ∙ part_before sres_size sres_size xres (zeros 8) (omega arith) in
      let third : quarter 2 (padded xres) ≡ zeros sres_size = ap (quarter 2) pad ∙ past xres (zeros 8) 8 0 sres_size h in
      let fourth : quarter 3 (padded xres) ≡ zeros sres_size = ap (quarter 3) pad ∙ past xres (zeros 8) 8 sres_size sres_size h in
      ap₂ xor (ap₂ xor first second) (ap₂ xor third fourth) ∙ xor_zeros two sres_size (omega (arith, length_two))

length_kc : (ck ik : Octets) → length ck ≡ ck_size → length ik ≡ ik_size → length (kc_of ck ik) ≡ kc_size
unfolding kc_of
length_kc ck ik c i =
    let a = length_part 0 kc_size ck (omega arith) in
    let b = length_part kc_size kc_size ck (omega arith) in
    let d = length_part 0 kc_size ik (omega arith) in
    let e = length_part kc_size kc_size ik (omega arith) in
    let left = length_xor (half 0 ck) (half 1 ck) (omega arith) in
    let right = length_xor (half 0 ik) (half 1 ik) (omega arith) in
    length_xor (xor (half 0 ck) (half 1 ck)) (xor (half 0 ik) (half 1 ik)) (omega arith) ∙ left ∙ a

-- ---- the triplets of a batch

module _ (batch : Octets) (n : ℕ) (size : length batch ≡ vector_size * n) where
  -- a vector of a batch gives a triplet of 28 octets
  of_vector : (k : ℕ) → k < n → TripletSized (triplet_of (vector_at batch k))
  unfolding triplet_of read_vector
  of_vector k lt =
      let x = octets_at batch k in
      let long : length x ≡ vector_size = length_part (vector_size * k) vector_size batch (omega arith) in
      let xres = part xres_at res_size x in
      let is : length xres ≡ res_size = length_part xres_at res_size x (omega arith) in
      record {
        rand = length_part 0 rand_size x (omega arith);
        sres = ap length (eight xres is) ∙ length_two xres is;
        kc = length_kc (part ck_at ck_size x) (part ik_at ik_size x) (length_part ck_at ck_size x (omega arith))
            (length_part ik_at ik_size x (omega arith));
      }

  pub length_each : (k : ℕ) → k < n → length (write_triplet (triplet_of (vector_at batch k))) ≡ triplet_size
  length_each k lt = length_triplet (triplet_of (vector_at batch k)) (of_vector k lt)

  pub length_triplets : length (triplets_of batch n) ≡ triplet_size * n
  length_triplets = length_joined (λ k. write_triplet (triplet_of (vector_at batch k))) triplet_size n length_each

  pub triplet_at : (k : ℕ) → k < n → item_of triplet (triplets_of batch n) k ≡ write_triplet (triplet_of (vector_at batch k))
  triplet_at k lt = part_joined (λ j. write_triplet (triplet_of (vector_at batch j))) triplet_size n length_each k lt

  pub read_at : (k : ℕ) → k < n → read_triplet (item_of triplet (triplets_of batch n) k) ≡ triplet_of (vector_at batch k)
  read_at k lt = ap read_triplet (triplet_at k lt) ∙ read_triplet_lem (triplet_of (vector_at batch k)) (of_vector k lt)

-- ---- the conversion

module _ (batch buffer : Octets) where
  pub taken : (n : ℕ) → Sizes batch buffer n → convert batch buffer ≡ record { refusal = 0; buffer = triplets_of batch n }
  unfolding convert sizes_fit
  taken n s =
      let whole : BatchOf (length batch) n = record { whole = s.vectors; some = s.some; most = s.most } in
      rw (is_batch_lem (length batch) n whole, how_many (length batch) n whole, eq-eqb (length buffer) (triplet_size * n) s.room)

  -- the sizes of a batch that is taken
  pub fits : sizes_fit (length batch) (length buffer) ≡ true → Sizes batch buffer (length batch / vector_size)
  unfolding sizes_fit
  fits e =
      let n = length batch / vector_size in
      let both = (and-eq-true_iff (is_batch (length batch)) (eqb (length buffer) (triplet_size * n))).0 e in
      let whole = batch_of (length batch) both.0 in
      record { some = whole.some; most = whole.most; vectors = whole.whole; room = eqb-true (length buffer) (triplet_size * n) both.1 }

  -- whether the sizes fit or not
  abbrev converted : Bool → Converted
  converted fit =
      cond fit (record { refusal = 0; buffer = triplets_of batch (length batch / vector_size) }) (record { refusal = 3; buffer = buffer })

  pub refused : ((n : ℕ) → Sizes batch buffer n → ⊥) → convert batch buffer ≡ record { refusal = 3; buffer = buffer }
  unfolding convert
  refused other = go (sizes_fit (length batch) (length buffer)) refl
    where
      go : (b : Bool) → sizes_fit (length batch) (length buffer) ≡ b → converted b ≡ record { refusal = 3; buffer = buffer }
      go true e = absurd (other (length batch / vector_size) (fits e))
      go false e = refl

  pub keeps_length : length (convert batch buffer).buffer ≡ length buffer
  unfolding convert
  keeps_length = go (sizes_fit (length batch) (length buffer)) refl
    where
      go : (b : Bool) → sizes_fit (length batch) (length buffer) ≡ b → length (converted b).buffer ≡ length buffer
      go true e =
          let s = fits e in
          length_triplets batch (length batch / vector_size) s.vectors ∙ sym s.room
      go false e = refl

pub triplet_promise : TripletPromise
unfolding triplet_of
triplet_promise = record {
  rand = λ v. refl;
  eight = eight;
  taken = taken;
  refused = refused;
  keeps_length = keeps_length;
  made = made;
  run = λ batch buffer n s k lt.
      let filled : length (convert batch buffer).buffer ≡ triplet_size * n = keeps_length batch buffer ∙ s.room in
      let item = item_of triplet (convert batch buffer).buffer k in
      placed_run triplet item (length_item triplet (convert batch buffer).buffer n filled k lt)
      ∙ ap triplet_run (made batch buffer n s k lt);
}
  where
    made : (batch buffer : Octets) (n : ℕ) → Sizes batch buffer n → (k : ℕ) → k < n
        → read_triplet (item_of triplet (convert batch buffer).buffer k) ≡ triplet_of (vector_at batch k)
    made batch buffer n s k lt =
        ap (λ (c : Converted). read_triplet (item_of triplet c.buffer k)) (taken batch buffer n s) ∙ read_at batch n s.vectors k lt
