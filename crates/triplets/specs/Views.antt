-- The code's values as the protocol has them. Assumes nothing: these are definitions.
use Rattle.std.specs.Prelude.{ℕ}
use Rattle.octets.specs.Octets.{Octets}
use Rattle.aka.specs.Triplets.{Converted}

-- the number that is answered, with the buffer as it is then
abbrev pub converted_of : (refusal : ℕ) (buffer : Octets) → Converted
converted_of refusal buffer = record { refusal = refusal; buffer = buffer }
