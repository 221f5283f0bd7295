-- What the type of the keys says of their lengths: a value of the type `[u8; n]` has n elements, in a struct too. Assumes nothing.
use Rattle.std.proofs.Common.{List, rules}
use mir.Val.{Val}
use denote.Laws.{Is}
use Rattle.aka.specs.Functions.{Shaped}
use Rattle.functions.specs.declared.Keys as code
use Rattle.functions.specs.Challenge.{keys_of}
use Rattle.functions.specs.contracts.Keys as declared

pub keys_shaped : (keys : code.Keys) (vs : List Val) → Is declared.the_row keys vs → Shaped (keys_of keys)
keys_shaped keys vs typed = record { k = search rules; opc = search rules }
