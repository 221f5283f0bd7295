-- The editions of card and centre records (document 02, #104), one row each. What depends on an edition goes through this table: there is
-- no other test of an edition. Assumes nothing.
use Rattle.std.specs.Prelude.{ℕ, ◌-◌, Bool, true, false, ◌&&◌, List, [], ◌∷◌, leb, length, get_or}
use Rattle.aka.specs.Sequence.{Numbering, Scheme}

-- what an edition settles
pub record Edition : Type 0 where
  pub numbering : Numbering

-- edition 1: document 01
abbrev pub first : Edition
first = record { numbering = record { width = 5; per_vector = false } }

-- edition 2: 'IND has 6 bits and SEQ 42 .. and the index goes up by 1 for every vector'
abbrev pub second : Edition
second = record { numbering = record { width = 6; per_vector = true } }

-- editions 1, 2, ..
abbrev pub table : List Edition
table = first ∷ second ∷ []

-- there is such an edition
unfoldable pub is_edition : (edition : ℕ) → Bool
is_edition edition = leb 1 edition && leb edition (length table)

-- its row. Where there is no such edition the record is refused, whatever row it gets
unfoldable pub row_of : (edition : ℕ) → Edition
row_of edition = get_or table (edition - 1) first

-- 'the card has 64 places', of every edition
abbrev pub card_places : ℕ
card_places = 64

-- as the protocol sees them
abbrev pub editions : Scheme
editions = record { numbering = λ edition. (row_of edition).numbering; places = card_places }
