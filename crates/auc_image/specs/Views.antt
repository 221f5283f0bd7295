-- The code's answer as the definitions have it. Assumes nothing: these are definitions.
use Rattle.std.specs.Prelude.{Result}
use Rattle.aka.specs.Auc.{Auc}
use Rattle.auc_record.specs.Views.{auc_of}
use Rattle.auc_record.specs.declared.Auc as declared
use Rattle.images.specs.Images as images
use Rattle.images.specs.declared.Refused.{Refused}

abbrev pub read_of : Result declared.Auc (Refused declared.Auc) → images.Read Auc
read_of = images.read_of auc_of
