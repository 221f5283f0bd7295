-- What the type of the record says of the lengths of its parts. Assumes nothing.
use Rattle.std.proofs.Common.{List, rules}
use mir.Val.{Val}
use denote.Laws.{Is}
use Rattle.functions.proofs.Shapes.{keys_shaped}
use Rattle.aka.specs.Auc.{AucShaped}
use Rattle.auc_record.specs.declared.Auc as code
use Rattle.auc_record.specs.Views.{auc_of}
use Rattle.auc_record.specs.contracts.Auc as declared

pub auc_shaped : (auc : code.Auc) (vs : List Val) → Is declared.the_row auc vs → AucShaped (auc_of auc)
auc_shaped auc vs typed = record { keys = keys_shaped auc.keys _ typed.1.1.1.0; amf = search rules }
