-- The bench: a desk driven by lines. Document 01, 'The bench program'. Assumes nothing: these are definitions.
use Rattle.std.specs.Prelude.{ℕ, ◌*◌, Bool, true, false, ◌||◌, cond, ltb, length}
use Rattle.octets.specs.Octets.{Octets, zeros, part}
use Rattle.functions.specs.Sets.{sets}
use Rattle.aka.specs.Functions.{Keys}
use Rattle.aka.specs.Layout.{rand_size, key_size, amf_size, vector_size, most_vectors}
use Rattle.bench_reader.specs.Commands as lines
use Rattle.bench_writer.specs.Replies as replies
use Rattle.bench_desk.specs.Desk as desks

pub record Bench : Type 0 where
  pub keyed : Bool  -- a key was taken
  pub failed : Bool  -- since then a synchronisation failure brought an AUTS; the desk has it
  pub desk : desks.Desk

-- what a line does: the bench after it, and what it answers
pub record BenchAnswer : Type 0 where
  pub bench : Bench
  pub reply : replies.Reply

-- before the first line no key was taken
abbrev pub new_bench : Bench
new_bench = record {
  keyed = false;
  failed = false;
  desk = desks.new_desk (record { set = 0; k = zeros key_size; opc = zeros key_size }) (zeros amf_size);
}

-- only an ask that ends in a synchronisation failure prints sync
unfoldable pub is_sync : replies.Reply → Bool
is_sync replies.key_ok = false
is_sync replies.put_ok = false
is_sync replies.bad_line = false
is_sync (replies.stored count held) = false
is_sync (replies.kept count held) = false
is_sync (replies.reset count held) = false
is_sync (replies.pass sqn left) = false
is_sync replies.sync = true
is_sync replies.mac = false
is_sync (replies.cause number) = false
is_sync (replies.refused number) = false
is_sync (replies.shown seqhe next seqms index) = false

-- lent for a count: that many of a line's RANDs, and that much of a buffer for five vectors
abbrev pub rands_for : (count : ℕ) (rands : Octets) → Octets
rands_for count rands = part 0 (rand_size * count) rands

abbrev pub room_for : (count : ℕ) → Octets
room_for count = part 0 (vector_size * count) (zeros (vector_size * most_vectors))

module _ (bench : Bench) where
  -- a bad line changes nothing
  unfoldable pub bad_line : BenchAnswer
  bad_line = record { bench = bench; reply = replies.bad_line }

  -- key: set, K, OPc, AMF, and everything new; an unknown set is refused 1
  unfoldable pub key : Keys → (amf : Octets) → BenchAnswer
  key keys amf =
      cond (sets.admits desks.edition keys)
      (record { bench = record { keyed = true; failed = false; desk = desks.new_desk keys amf }; reply = replies.key_ok })
      (record { bench = bench; reply = replies.refused 1 })

  -- any other word is a step of the desk
  unfoldable pub on_desk : desks.DeskAnswer → BenchAnswer
  on_desk a = record {
    bench = record { keyed = bench.keyed; failed = bench.failed || is_sync a.reply; desk = a.desk };
    reply = a.reply;
  }

  abbrev pub order : (count : ℕ) (rands : Octets) → BenchAnswer
  order count rands = on_desk (desks.order bench.desk count (rands_for count rands) (room_for count))

  -- a resync with no AUTS since the last key taken is a bad line
  abbrev pub resync : (count : ℕ) (rands : Octets) → BenchAnswer
  resync count rands = cond bench.failed (on_desk (desks.resync bench.desk count (rands_for count rands) (room_for count))) bad_line

  -- another word before the first key taken is a bad line
  abbrev pub once_keyed : BenchAnswer → BenchAnswer
  once_keyed rest = cond bench.keyed rest bad_line

  -- what a command does, by its word
  unfoldable pub answer_to : lines.Command → lines.Word → BenchAnswer
  answer_to c lines.bad_line = bad_line
  answer_to c lines.key = key (record { set = c.set; k = c.k; opc = c.opc }) c.amf
  answer_to c lines.order = once_keyed (order c.count c.rands)
  answer_to c lines.ask = once_keyed (on_desk (desks.ask bench.desk))
  answer_to c lines.put = once_keyed (on_desk (desks.put bench.desk c.seqhe c.next))
  answer_to c lines.resync = once_keyed (resync c.count c.rands)
  answer_to c lines.show = once_keyed (on_desk (desks.show bench.desk))

  -- any line
  unfoldable pub step : (line : Octets) → BenchAnswer
  step line = answer_to (lines.read line) (lines.read line).word

-- ---- a line with its answer in a lent buffer

-- the bench after the line, the length of the answer, and what the buffer then holds
pub record Stepped : Type 0 where
  pub bench : Bench
  pub size : ℕ
  pub buffer : Octets

-- the answer stands at the front of the buffer and the rest is as it was; without room for every answer nothing is done
unfoldable pub stepped : Bench → (line buffer : Octets) → Stepped
stepped bench line buffer =
    cond (ltb (length buffer) replies.room) (record { bench = bench; size = 0; buffer = buffer })
    (record {
      bench = (step bench line).bench;
      size = (replies.written (step bench line).reply buffer).count;
      buffer = (replies.written (step bench line).reply buffer).buffer;
    })
