-- Triplets for GSM phones, made of vectors at the centre: RAND stays, SRES comes of XRES and Kc of CK and IK.
-- TS 33.102 §6.8.1.2, conversion functions c2 and c3; document 02, #102. Assumes nothing.
use Rattle.std.specs.Prelude.{ℕ, ◌-◌, ◌*◌, ◌/◌, Bool, ◌&&◌, cond, ◌++◌, eqb, length}
use Rattle.octets.specs.Octets.{Octets, zeros, part, xor}
use Rattle.aka.specs.Layout.{Vector, Triplet, sres_size, kc_size, triplet_size, vector_size, write_triplet, vector_at, is_batch, joined}

-- XRES*: XRES, and zeros to 16 octets
abbrev pub padded_size : ℕ
padded_size = 16

abbrev pub padded : (xres : Octets) → Octets
padded xres = xres ++ zeros (padded_size - length xres)

-- the quarters of XRES*, the halves of CK and IK; they count from 0
abbrev pub quarter : ℕ → Octets → Octets
quarter k x = part (sres_size * k) sres_size x

abbrev pub half : ℕ → Octets → Octets
half k x = part (kc_size * k) kc_size x

-- c2
unfoldable pub sres_of : (xres : Octets) → Octets
sres_of xres =
    xor (xor (quarter 0 (padded xres)) (quarter 1 (padded xres)))
    (xor (quarter 2 (padded xres)) (quarter 3 (padded xres)))

-- c3
unfoldable pub kc_of : (ck ik : Octets) → Octets
kc_of ck ik = xor (xor (half 0 ck) (half 1 ck)) (xor (half 0 ik) (half 1 ik))

unfoldable pub triplet_of : Vector → Triplet
triplet_of v = record { rand = v.rand; sres = sres_of v.xres; kc = kc_of v.ck v.ik }

-- ---- a lent batch, and a lent buffer for its triplets

-- refusal 3 does not apply: one to five whole vectors, and room for as many triplets
unfoldable pub sizes_fit : (batch buffer : ℕ) → Bool
sizes_fit batch buffer = is_batch batch && eqb buffer (triplet_size * (batch / vector_size))

-- the triplets of the first n vectors, one behind the other
abbrev pub triplets_of : (batch : Octets) (n : ℕ) → Octets
triplets_of batch n = joined (λ k. write_triplet (triplet_of (vector_at batch k))) n

-- the refusal number, 0 for none, and the buffer after the call
pub record Converted : Type 0 where
  pub refusal : ℕ
  pub buffer : Octets

unfoldable pub convert : (batch buffer : Octets) → Converted
convert batch buffer =
    cond (sizes_fit (length batch) (length buffer))
    (record { refusal = 0; buffer = triplets_of batch (length batch / vector_size) })
    (record { refusal = 3; buffer = buffer })
