-- The code's answer as the definitions have it. Assumes nothing: these are definitions.
use Rattle.std.specs.Prelude.{Result}
use Rattle.aka.specs.Usim.{Usim}
use Rattle.usim_record.specs.Views.{usim_of}
use Rattle.usim_record.specs.declared.Usim as declared
use Rattle.images.specs.Images as images
use Rattle.images.specs.declared.Refused.{Refused}

abbrev pub read_of : Result declared.Usim (Refused declared.Usim) → images.Read Usim
read_of = images.read_of usim_of
