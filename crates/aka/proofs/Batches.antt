-- Laws of a batch: its vectors, read back from its octets. Assumes nothing.
use Prim.Native.Nat.{ℕ, ◌*◌, ◌≤◌, ◌<◌}
use mathlib.Core.Bool.{Bool, true, false, cond}
use mathlib.Core.Path.{◌≡◌, ap, ◌∙◌}
use native.Mathlib.Omega.{arith}
use lib.Dec.{eqb}
use lib.ListN.{length}
use Rattle.octets.specs.Octets.{Octets}
use Rattle.aka.specs.Layout.{Vector, rand_size, amf_size, vector_size, most_vectors, rand_at, octets_at, vector_at, write_vector}
use Rattle.aka.specs.Layout.{read_vector}
use Rattle.aka.specs.Functions.{Family, Lengths}
use Rattle.aka.specs.Sequence.{Numbering, Scheme, sqn_of}
use Rattle.aka.specs.Auc.{Auc, count_of, seq_at, ind_at, vector_from, batch_from}
use Rattle.octets.proofs.Parts.{length_part}
use Rattle.aka.proofs.Layouts.{VectorSized, length_vector, read_vector_lem, length_joined, part_joined}
use Rattle.aka.proofs.Tokens.{sqn_octets, length_sqn, vector_sized}

pub count_le : (default count : ℕ) → default ≤ most_vectors → count ≤ most_vectors → count_of default count ≤ most_vectors
count_le default count d h = go (eqb count 0)
  where
    go : (b : Bool) → cond b default count ≤ most_vectors
    go true = d
    go false = h

pub length_rand : (rands : Octets) (n : ℕ) → length rands ≡ rand_size * n → (k : ℕ) → k < n → length (rand_at rands k) ≡ rand_size
length_rand rands n h k l = length_part (rand_size * k) rand_size rands (omega arith)

module _ (scheme : Scheme) (family : Family) (auc : Auc) (L : Lengths (family.under auc.keys)) (ha : length auc.amf ≡ amf_size)
    (from : ℕ) (rands : Octets) (n : ℕ) (hr : length rands ≡ rand_size * n) where
  abbrev m : Numbering
  m = scheme.numbering auc.edition

  abbrev vec : ℕ → Vector
  vec k = vector_from scheme family auc from rands k

  sizes : (k : ℕ) → k < n → VectorSized (vec k)
  sizes k h = vector_sized (family.under auc.keys) L (sqn_octets m.width (seq_at from k) (ind_at m auc k)) auc.amf (rand_at rands k)
      (length_sqn (sqn_of m.width (seq_at from k) (ind_at m auc k))) ha (length_rand rands n hr k h)

  pub length_batch : length (batch_from scheme family auc from rands n) ≡ vector_size * n
  unfolding batch_from
  length_batch = length_joined (λ k. write_vector (vec k)) vector_size n (λ k h. length_vector (vec k) (sizes k h))

  pub batch_octets : (k : ℕ) → k < n → octets_at (batch_from scheme family auc from rands n) k ≡ write_vector (vec k)
  unfolding batch_from
  batch_octets k h = part_joined (λ j. write_vector (vec j)) vector_size n (λ j l. length_vector (vec j) (sizes j l)) k h

  pub batch_vector : (k : ℕ) → k < n → vector_at (batch_from scheme family auc from rands n) k ≡ vec k
  batch_vector k h = ap read_vector (batch_octets k h) ∙ read_vector_lem (vec k) (sizes k h)
