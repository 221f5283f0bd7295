-- The code's values as the definitions have them. Assumes nothing: these are definitions.
use Rattle.usim_record.specs.Views.{usim_of}
use Rattle.auc_record.specs.Views.{auc_of}
use Rattle.vlr_record.specs.Views.{vlr_of}
use Rattle.bench_writer.specs.Views.{reply_of}
use Rattle.bench_desk.specs.Desk as desk
use Rattle.bench_desk.specs.declared.Desk as declared_desk
use Rattle.bench_writer.specs.declared.Reply.{Reply}

abbrev pub desk_of : declared_desk.Desk → desk.Desk
desk_of d = record { usim = usim_of d.usim; auc = auc_of d.auc; vlr = vlr_of d.vlr; rand = d.rand; auts = d.auts }

-- the desk after a step, and what is answered
abbrev pub desk_answer_of : declared_desk.Desk × Reply → desk.DeskAnswer
desk_answer_of a = record { desk = desk_of a.0; reply = reply_of a.1 }
