-- Texts that are written part by part, and then to a buffer. Assumes nothing.
use Prim.Native.Nat.{ℕ, ◌+◌, ◌≤◌, ◌<◌}
use mathlib.Core.List.{List, ◌++◌, append_assoc}
use mathlib.Core.Path.{◌≡◌, ◌∙◌}
use native.Mathlib.Omega.{arith}
use borrow.Author.Tests.{le-ltb, lt-ltb}
use lib.ListN.{length, take, drop, length-append}
use lib.Seq.{take_at, length-take-le}
use Rattle.bench_writer.specs.Replies.{Reply, room, text_of, written}
use Rattle.bench_writer.specs.Views.{written_of}

-- a part is put behind what is written
pub longer : (used : ℕ) (bytes text : List ℕ) → used ≤ length bytes
    → take (used + length text) (take used bytes ++ text ++ drop (used + length text) bytes) ≡ take used bytes ++ text
longer used bytes text h =
    take_at (take used bytes ++ text) (drop (used + length text) bytes) (used + length text)
    (length-append (take used bytes) text ∙ omega (arith, length-take-le used bytes h))

-- parts one behind the other
pub ruleset joined = (append_assoc)

-- the text at the front of a buffer with room for it
pub no_room : (reply : Reply) (buffer : List ℕ) → length buffer < room → written_of 0 buffer ≡ written reply buffer
unfolding written
no_room reply buffer h = rw (lt-ltb (length buffer) room h)

pub with_room : (reply : Reply) (buffer : List ℕ) {t after : List ℕ} {n : ℕ} → room ≤ length buffer → t ≡ text_of reply → n ≡ length t
    → after ≡ t ++ drop (length t) buffer → written_of n after ≡ written reply buffer
unfolding written
with_room reply buffer h e size is = rw (le-ltb (length buffer) room h, size, is, e)
