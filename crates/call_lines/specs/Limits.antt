-- How much a line of `calls` may hold. Assumes nothing: these are definitions.
use Rattle.std.specs.Prelude.{ℕ}

-- the bytes of the longest line that is answered
abbrev pub longest : ℕ
longest = 4096

-- the bytes of the longest answer: that of a `phone` that is refused, with 31 more than its line
abbrev pub longest_answer : ℕ
longest_answer = 4127

-- the fields of a line
abbrev pub most_fields : ℕ
most_fields = 80

-- the octets of a buffer that is lent for an image or a batch
abbrev pub most_lent : ℕ
most_lent = 512
