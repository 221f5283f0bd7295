-- What the code makes once of a subscriber's keys and once of a RAND, so that each function costs one block at most.
-- Assumes nothing: these are definitions.
use Rattle.std.specs.Prelude.{ℕ, cond, List, ◌≡◌, eqb, replicate}
use Rattle.aes_schedule.specs.KeyExpansion.{key_expansion}
use Rattle.aka.specs.Functions as aka
use Rattle.functions.specs.declared.Keys as declared

-- the code's keys as the protocol has them
abbrev pub keys_of : declared.Keys → aka.Keys
keys_of keys = record { set = keys.set; k = keys.k; opc = keys.opc }

-- the key schedule of the keys; set 0 needs none, and has zeros
unfoldable pub schedule_of : aka.Keys → List ℕ
schedule_of keys = cond (eqb keys.set 0) (replicate 44 0) (key_expansion keys.k)

abbrev pub IsSchedule : aka.Keys → List ℕ → Type 0
IsSchedule keys schedule = schedule ≡ schedule_of keys
