-- Sequence numbers: SQN has 48 bits, SEQ above IND. Definitions and theorems take any width `w` of IND in bits, and any scheme of
-- editions: `Editions` has ours. Assumes nothing.
use Rattle.std.specs.Prelude.{ℕ, ◌+◌, ◌-◌, ◌*◌, ◌/◌, ◌%◌, ◌^◌, ◌≤◌, ◌<◌, Bool}

-- the largest jump
abbrev pub D : ℕ
D = 268435456

-- the bits of an SQN
abbrev pub sqn_bits : ℕ
sqn_bits = 48

-- a number that an SQN can be
abbrev pub FitsSqn : ℕ → Type 0
FitsSqn sqn = sqn < 2 ^ sqn_bits

module _ (w : ℕ) where
  -- the number of indices
  abbrev pub indices : ℕ
  indices = 2 ^ w

  -- the bits of a SEQ
  abbrev pub seq_bits : ℕ
  seq_bits = sqn_bits - w

  -- the largest SEQ
  abbrev pub limit : ℕ
  limit = 2 ^ seq_bits - 1

  -- SQN = 32 x SEQ + IND in document 01, and its two parts
  abbrev pub sqn_of : ℕ → ℕ → ℕ
  sqn_of seq ind = indices * seq + ind

  abbrev pub seq_of : ℕ → ℕ
  seq_of sqn = sqn / indices

  abbrev pub ind_of : ℕ → ℕ
  ind_of sqn = sqn % indices

-- ---- numbers by edition (document 02, #104)

-- how the numbers of a batch are made
pub record Numbering : Type 0 where
  pub width : ℕ  -- of IND, in bits
  pub per_vector : Bool  -- IND goes up for each vector; else all vectors of a batch have the same, and it goes up for each batch

-- what the protocol sees of the editions: each record carries the number of its own
pub record Scheme : Type 0 where
  pub numbering : (edition : ℕ) → Numbering
  pub places : ℕ  -- of every card

abbrev pub width_of : Scheme → (edition : ℕ) → ℕ
width_of scheme edition = (scheme.numbering edition).width

-- an SQN has room for the index, and each index has a place
pub record Fitting (scheme : Scheme) : Type 0 where
  pub width : (edition : ℕ) → width_of scheme edition ≤ sqn_bits
  pub places : (edition : ℕ) → indices (width_of scheme edition) ≤ scheme.places
