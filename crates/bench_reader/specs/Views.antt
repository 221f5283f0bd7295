-- The code's command as the definitions have it. Assumes nothing: these are definitions.
use Rattle.std.specs.Prelude.{Option, Some, None}
use Rattle.octets.specs.Octets.{Octets, zeros}
use Rattle.aka.specs.Layout.{key_size, amf_size}
use Rattle.functions.specs.declared.Keys as declared_keys
use Rattle.bench_reader.specs.Commands as lines
use Rattle.bench_reader.specs.declared.rands.Rands as declared_rands
use Rattle.bench_reader.specs.declared.Command.{Command}
use Rattle.bench_reader.specs.declared.Command.TheVariants.{Key, Order, Ask, Put, Resync, Show}

-- a key line's command
abbrev pub with_keys : declared_keys.Keys → (amf : Octets) → lines.Command
with_keys keys amf = record {
  word = lines.key;
  set = keys.set;
  k = keys.k;
  opc = keys.opc;
  amf = amf;
  count = 0;
  rands = zeros lines.rands_size;
  seqhe = 0;
  next = 0;
}

-- a command of the word with RANDs
abbrev pub with_rands : lines.Word → declared_rands.Rands → lines.Command
with_rands word r = record {
  word = word;
  set = 0;
  k = zeros key_size;
  opc = zeros key_size;
  amf = zeros amf_size;
  count = r.count;
  rands = r.octets;
  seqhe = 0;
  next = 0;
}

-- of RANDs that were read: the word with them, and a bad line where there are none
abbrev pub batch_of : lines.Word → Option declared_rands.Rands → lines.Command
batch_of word None = lines.alone lines.bad_line
batch_of word (Some r) = with_rands word r

-- none is a bad line
abbrev pub command_of : Option Command → lines.Command
command_of None = lines.alone lines.bad_line
command_of (Some (Key keys amf)) = with_keys keys amf
command_of (Some (Order r)) = with_rands lines.order r
command_of (Some Ask) = lines.alone lines.ask
command_of (Some (Put seqhe next)) = lines.put_command seqhe next
command_of (Some (Resync r)) = with_rands lines.resync r
command_of (Some Show) = lines.alone lines.show
