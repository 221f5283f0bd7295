-- The code's values as the protocol has them. Assumes nothing: these are definitions.
use Rattle.std.specs.Prelude as code
use Rattle.std.specs.Prelude.{ℕ, ◌+◌, Some, None}
use Rattle.std.proofs.Math.Option.{Option, none, some}
use Rattle.functions.specs.Challenge.{keys_of}
use Rattle.aka.specs.Auc as aka
use Rattle.aka.specs.Layout as layout
use Rattle.batches.specs.declared.Series as declared_series
use Rattle.batches.specs.declared.vectors.Vector as declared_vector

-- the record that a batch is made from; SEQ_HE is then the number that its SEQ follow
abbrev pub counted_by : declared_series.Series → aka.Auc
counted_by s = record { edition = s.edition; keys = keys_of s.keys.now.keys; amf = s.amf; seqhe = s.from; next = s.next }

-- a vector
abbrev pub vector_of : declared_vector.Vector → layout.Vector
vector_of v = record { rand = v.rand; xres = v.xres; ck = v.ck; ik = v.ik; autn = v.autn }

-- where a vector begins, if anywhere
abbrev pub offset_in : code.Option ℕ → Option ℕ
offset_in (Some offset) = some offset
offset_in None = none

-- where a part lies that begins at an offset of a batch, the batch lying at `start`: a block of memory, and the place in it. The empty part
-- lies at the front
abbrev pub start_in : Option ℕ → (start : ℕ × ℕ) → ℕ × ℕ
start_in none start = (start.0, 0 + start.1)
start_in (some offset) start = (start.0, offset + start.1)
