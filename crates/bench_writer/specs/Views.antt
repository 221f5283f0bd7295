-- The code's replies as the definitions have them. Assumes nothing: these are definitions.
use Rattle.std.specs.Prelude.{ℕ, List}
use Rattle.bench_writer.specs.Replies as replies
use Rattle.bench_writer.specs.declared.Reply.{Reply}
use Rattle.bench_writer.specs.declared.Reply.TheVariants.{KeyOk, PutOk, BadLine, Stored, Kept, Reset}
use Rattle.bench_writer.specs.declared.Reply.TheVariants.{Pass, Sync, Mac, Cause, Refused, Shown}

abbrev pub reply_of : Reply → replies.Reply
reply_of KeyOk = replies.key_ok
reply_of PutOk = replies.put_ok
reply_of BadLine = replies.bad_line
reply_of (Stored count held) = replies.stored count held
reply_of (Kept count held) = replies.kept count held
reply_of (Reset count held) = replies.reset count held
reply_of (Pass sqn left) = replies.pass sqn left
reply_of Sync = replies.sync
reply_of Mac = replies.mac
reply_of (Cause number) = replies.cause number
reply_of (Refused number) = replies.refused number
reply_of (Shown seqhe next seqms index) = replies.shown seqhe next seqms index

abbrev pub written_of : (count : ℕ) (buffer : List ℕ) → replies.Written
written_of count buffer = record { count = count; buffer = buffer }
