-- The code's values as the protocol has them. Assumes nothing: these are definitions.
use Rattle.std.specs.Prelude.{ℕ, ◌+◌, Bool, true, false, Option, Some, None, Result, Ok, Err}
use Rattle.octets.specs.Octets.{Octets}
use Rattle.aka.specs.Layout.{answer_at}
use Rattle.aka.specs.Handset as aka
use Rattle.aka.specs.Refusals.{number_of}
use Rattle.aka.specs.declared.Refusal.{Refusal}
use Rattle.handset_store.specs.declared.Outcome.{Outcome}
use Rattle.handset_store.specs.declared.Outcome.TheVariants.{Repeated, Accepted, Sync, Mac, Refused}
use Rattle.handset_store.specs.declared.Source.{Source}
use Rattle.handset_store.specs.declared.Source.TheVariants.{Stored, Fresh}

abbrev pub store_of : (held : Bool) (octets : Octets) → aka.Store
store_of held octets = record { held = held; octets = octets }

abbrev pub outcome_of : Outcome → aka.Outcome
outcome_of Repeated = aka.repeated
outcome_of Accepted = aka.accepted
outcome_of Sync = aka.sync_failure
outcome_of Mac = aka.mac_failure
outcome_of (Refused number) = aka.refused number

abbrev pub is_accepted : aka.Outcome → Bool
is_accepted aka.repeated = false
is_accepted aka.accepted = true
is_accepted aka.sync_failure = false
is_accepted aka.mac_failure = false
is_accepted (aka.refused number) = false

abbrev pub source_in : Option Source → aka.Source
source_in (Some Stored) = aka.in_stored
source_in (Some Fresh) = aka.in_fresh
source_in None = aka.nowhere

-- where the part lies that is shown, the stored and the fresh octets lying at `stored` and `fresh`: a block of memory, and the place in it.
-- The empty part lies at the front of the fresh octets
abbrev pub start_of : aka.Source → (stored fresh : ℕ × ℕ) → ℕ × ℕ
start_of aka.in_stored stored fresh = (stored.0, answer_at + stored.1)
start_of aka.in_fresh stored fresh = (fresh.0, 0 + fresh.1)
start_of aka.nowhere stored fresh = (fresh.0, 0 + fresh.1)

-- a store after a call, with the octets that it has then; a refusal leaves the mark that it had
abbrev pub written_of : Result Bool Refusal → (held : Bool) (octets : Octets) → aka.Written
written_of (Ok held) _ octets = record { refusal = 0; store = store_of held octets }
written_of (Err refusal) held octets = record { refusal = number_of refusal; store = store_of held octets }
