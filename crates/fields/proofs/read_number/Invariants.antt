-- The whole number is that of the rest behind `value`.
use Rattle.std.proofs.Common.{◌≡◌, ◌<◌, ◌^◌, drop}
use Rattle.fields.specs.Fields.{number_in}
use Rattle.fields.proofs.NumberLaws.{number_behind}
use Rattle.fields.proofs.read_number.Given as goal

abbrev pub invariant-loop-c : goal.invariant-loop-c
invariant-loop-c l = record { fits : l.value < 2 ^ 64; so_far : number_in l.text ≡ number_behind l.value (drop l.c-index l.text) }
