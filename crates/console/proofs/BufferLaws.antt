-- What stands at the front of a buffer. Assumes nothing.
use Prim.Native.Nat.{ℕ, ◌+◌, ◌-◌, ◌≤◌, min}
use mathlib.Core.Bool.{Bool, true, false, cond}
use mathlib.Core.List.{List, [], ◌++◌}
use mathlib.Core.Path.{◌≡◌, refl, sym, ap, ap₂, ◌∙◌}
use native.Mathlib.Omega.{arith}
use lib.ListN.{length, take, drop, length-append, take-append-drop}
use lib.Seq.{length-take-le, take_all, take-append-add, take-append_seam, take-length}
use Rattle.octets.proofs.Walks.{take_min}
use Rattle.console.specs.Buffers.{Buffer, appended, buffer_of, filled_with}

-- so many bytes as a front has are the front
pub front_again : (n : ℕ) (l : List ℕ) → take (length (take n l)) l ≡ take n l
front_again n l = rw take-append-drop at (take-append_seam (take n l) (drop n l))

-- the front of a buffer that is filled
pub filled_front : (front bytes : List ℕ) {used : ℕ} {now : List ℕ} → buffer_of used now ≡ filled_with front bytes → take used now ≡ front
unfolding filled_with
filled_front front bytes e =
    ap (λ (b : Buffer). take b.used b.bytes) e ∙ take-append_seam front (drop (length front) bytes)

pub filled_used : (front bytes : List ℕ) {used : ℕ} {now : List ℕ} → buffer_of used now ≡ filled_with front bytes → used ≡ length front
unfolding filled_with
filled_used front bytes e = ap (λ (b : Buffer). b.used) e

-- a part that has room behind what was used
pub appended_fits : (bytes : List ℕ) (used : ℕ) (part : List ℕ) {now : List ℕ} {n : ℕ} → buffer_of n now ≡ appended bytes used part
    → length (take used bytes) + length part ≤ length bytes → take n now ≡ take used bytes ++ part
appended_fits bytes used part e fits =
    filled_front _ bytes e ∙ take_all (length bytes) (take used bytes ++ part) (rw (length-append (take used bytes) part) fits)

-- what `append` puts to the front: the bytes that were used, and of the part as many as there is room for
module _ (bytes : List ℕ) (used : ℕ) (part : List ℕ) {from n : ℕ} (kept : from ≡ min used (length bytes))
    (more : n ≡ min (length part) (length bytes - from)) where
  pub front_is : take from bytes ++ take n part ≡ take (length bytes) (take used bytes ++ part)
  front_is =
      let room = length bytes - from in
      let same : take from bytes ≡ take used bytes = ap (λ (k : ℕ). take k bytes) kept ∙ take_min used bytes in
      let sum : length (take from bytes) + room ≡ length bytes = rw (length-take-le from bytes (omega arith)) (omega arith) in
      let swap : n ≡ min room (length part) = omega arith in
      rw (swap, take_min room part) (
      sym (take-append-add (take from bytes) part room)
      ∙ ap₂ (λ (k : ℕ) (l : List ℕ). take k (l ++ part)) sum same)

  pub appended_is : buffer_of (from + length (take n part)) (take from bytes ++ take n part ++ drop (from + length (take n part)) bytes)
      ≡ appended bytes used part
  unfolding filled_with
  appended_is =
      let size : length (take from bytes ++ take n part) ≡ from + length (take n part) =
      length-append (take from bytes) (take n part) ∙ ap (λ (k : ℕ). k + length (take n part)) (length-take-le from bytes (omega arith)) in
      rw (← size) (ap (λ (l : List ℕ). filled_with l bytes) front_is)

-- of what waits at the front of a buffer, all or none
pub all_or_none : (all : Bool) (waits : List ℕ) → take (cond all (length waits) 0) waits ≡ cond all waits []
all_or_none true waits = take-length waits
all_or_none false waits = refl

-- and what is left without it
pub less : (out : List ℕ) (used : ℕ) (all : Bool) {waits : List ℕ} → waits ≡ take used out
    → take (length waits - length (cond all waits [])) out ≡ cond all [] waits
less out used true {waits} e = let none : length waits - length waits ≡ 0 = omega arith in rw none
less out used false {waits} e =
    let all : length waits - 0 ≡ length waits = omega arith in
    rw all (ap (λ (l : List ℕ). take (length l) out) e ∙ front_again used out ∙ sym e)
