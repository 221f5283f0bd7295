-- The rest of the line ends at its first space.
use Rattle.std.proofs.Common.{◌≡◌, ◌≤◌, ◌-◌, rules, arith, length, take, drop, length-drop}
use lib.Seq.{take_all}
use Rattle.fields.specs.Fields.{end_of, field}
use Rattle.fields.proofs.FieldLaws.{first_space}
use Rattle.fields.proofs.field_end.Goals as goal

pub returns : goal.returns
unfolding end_of
returns c =
    let line = c.args.line.now in
    let from = c.args.from in
    let rest = take (length line - from) (drop from line) in
    let within : c.unwrap_or-size.result ≤ length rest = search rules in
    let same : rest ≡ drop from line = take_all (length line - from) (drop from line) (simp length-drop (omega arith)) in
    let size : c.unwrap_or-size.result ≡ length (field (drop from line)) =
    rw same at (first_space rest c.unwrap_or-size.result within (search rules) (search rules)) in
    let inside : c.unwrap_or-size.result ≤ length line - from = rw (same, length-drop) at within in
    (omega arith, omega arith, omega arith)
