-- The head of a packed image (document 01, 'Numbers and records'): edition and set in the first octet, then K and OPc. USIM and AuC share
-- it, and it is the same in every edition. Assumes nothing: these are definitions.
use Rattle.std.specs.Prelude.{ℕ, ◌+◌, ◌*◌, ◌/◌, ◌%◌, Bool, ◌∷◌, ◌++◌, get_or}
use Rattle.octets.specs.Octets.{Octets, zeros, part}
use Rattle.aka.specs.Layout.{key_size}
use Rattle.aka.specs.Functions.{Keys, Family}

-- edition and set have 4 bits each: so many values
abbrev pub nibble : ℕ
nibble = 16

abbrev pub k_at : ℕ
k_at = 1

abbrev pub opc_at : ℕ
opc_at = k_at + key_size

abbrev pub head_size : ℕ
head_size = opc_at + key_size

unfoldable pub head : (edition : ℕ) → Keys → Octets
head edition keys = (nibble * edition + keys.set) ∷ (keys.k ++ keys.opc)

-- the edition of an image
abbrev pub edition_in : Octets → ℕ
edition_in x = get_or x 0 0 / nibble

-- set, K and OPc in an image
unfoldable pub keys_in : Octets → Keys
keys_in x = record { set = get_or x 0 0 % nibble; k = part k_at key_size x; opc = part opc_at key_size x }

-- a record of the image's edition may hold its keys
abbrev pub admitted_head : Family → (x : Octets) → Bool
admitted_head family x = family.admits (edition_in x) (keys_in x)

-- the keys of a refused reading
abbrev pub no_keys : Keys
no_keys = record { set = 0; k = zeros key_size; opc = zeros key_size }
