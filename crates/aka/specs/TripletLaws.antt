-- What the conversion of a batch into triplets promises, sentence by sentence of document 02, #102. Assumes nothing.
use Rattle.std.specs.Prelude.{ℕ, ◌*◌, ◌≤◌, ◌<◌, ◌≡◌, length}
use Rattle.octets.specs.Octets.{Octets, xor}
use Rattle.aka.specs.Layout.{Vector, triplet, res_size, vector_size, triplet_size, most_vectors, read_triplet, vector_at}
use Rattle.aka.specs.Triplets.{quarter, sres_of, triplet_of, triplets_of, convert}
use Rattle.aka.specs.Vlr.{placed, item_of, run_in, triplet_run}

-- n vectors, one to five, and room for n triplets
pub record Sizes (batch buffer : Octets) (n : ℕ) : Type 0 where
  pub some : 1 ≤ n
  pub most : n ≤ most_vectors
  pub vectors : length batch ≡ vector_size * n
  pub room : length buffer ≡ triplet_size * n

pub record TripletPromise : Type 0 where
  -- 'RAND unchanged'
  pub rand : (v : Vector) → (triplet_of v).rand ≡ v.rand
  -- of eight octets two quarters are padding: the other two are SRES, by xor
  pub eight : (xres : Octets) → length xres ≡ res_size → sres_of xres ≡ xor (quarter 0 xres) (quarter 1 xres)
  -- a batch that is taken fills the buffer; refusal 3 leaves it
  pub taken : (batch buffer : Octets) (n : ℕ) → Sizes batch buffer n
      → convert batch buffer ≡ record { refusal = 0; buffer = triplets_of batch n }
  pub refused : (batch buffer : Octets) → ((n : ℕ) → Sizes batch buffer n → ⊥)
      → convert batch buffer ≡ record { refusal = 3; buffer = buffer }
  pub keeps_length : (batch buffer : Octets) → length (convert batch buffer).buffer ≡ length buffer
  -- triplet k is made of vector k; in its place at the node it asks that vector's RAND, and passes by c2 of XRES with c3 of CK and IK
  pub made : (batch buffer : Octets) (n : ℕ) → Sizes batch buffer n → (k : ℕ) → k < n
      → read_triplet (item_of triplet (convert batch buffer).buffer k) ≡ triplet_of (vector_at batch k)
  pub run : (batch buffer : Octets) (n : ℕ) → Sizes batch buffer n → (k : ℕ) → k < n
      → run_in (placed triplet (item_of triplet (convert batch buffer).buffer k)) ≡ triplet_run (triplet_of (vector_at batch k))
