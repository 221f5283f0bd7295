-- A row of the code's table as the definitions have it. Assumes nothing: these are definitions.
use Rattle.std.specs.Prelude.{ℕ, ◌*◌, ◌/◌, ◌≤◌, ◌<◌, ◌≡◌}
use Rattle.aka.specs.Sequence as aka
use Rattle.aka.specs.Sequence.{indices, seq_bits, limit}
use Rattle.aka.specs.Editions.{card_places}
use Rattle.editions.specs.declared.Numbering as declared

-- the octets of all places in the largest image of a card
abbrev pub most_octets : ℕ
most_octets = 336

-- n is the number of indices of `w` bits: at least one, and each has its place
pub record Indices (w n : ℕ) : Type 0 where
  pub number : n ≡ indices w
  pub some : 0 < n
  pub inside : n ≤ card_places

pub record Numbers (m : aka.Numbering) (r : declared.Numbering) : Type 0 where
  pub indices : Indices m.width r.indices
  pub bits : r.bits ≡ seq_bits m.width
  pub limit : r.limit ≡ limit m.width
  pub each : r.each ≡ m.per_vector
  pub octets : r.octets ≡ aka.seq_bits m.width * aka.indices m.width / 8
  pub few : r.octets ≤ most_octets
