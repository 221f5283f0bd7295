-- A buffer with bytes at its front, and how many these are. Assumes nothing: these are definitions.
use Rattle.std.specs.Prelude.{ℕ, List, ◌++◌, length, take, drop}

pub record Buffer : Type 0 where
  pub used : ℕ
  pub bytes : List ℕ

-- as the code answers
abbrev pub buffer_of : (used : ℕ) (bytes : List ℕ) → Buffer
buffer_of used bytes = record { used = used; bytes = bytes }

-- a buffer with these bytes at its front, and behind them the bytes that it had
unfoldable pub filled_with : (front bytes : List ℕ) → Buffer
filled_with front bytes = buffer_of (length front) (front ++ drop (length front) bytes)

-- a buffer, of which `used` bytes were used, with a part behind them as far as there is room. It is full where it has fewer bytes
abbrev pub appended : (bytes : List ℕ) (used : ℕ) (part : List ℕ) → Buffer
appended bytes used part = filled_with (take (length bytes) (take used bytes ++ part)) bytes
