-- What a copy leaves in a buffer. Assumes nothing.
use Prim.Native.Nat.{ℕ, ◌+◌, ◌-◌, ◌≤◌}
use mathlib.Core.List.{◌++◌, append_assoc, append-nil}
use mathlib.Core.Path.{◌≡◌, sym, ap, ap₂, ◌∙◌}
use native.Mathlib.Omega.{arith}
use borrow.Rule.Slice.PartMut.{put_mid, Post-is}
use lib.ListN.{length, take, drop, length-drop, drop_of_length-le}
use lib.Seq.{take_all, take-length, drop-drop}
use Rattle.octets.specs.Octets.{Octets}

-- copied to the front of d
pub copied : (s d : Octets) {x t : Octets} (n : ℕ) → t ≡ take (length s) s ++ drop (length s) d → s ≡ x → length x ≡ n
    → t ≡ x ++ drop n d
copied s d {x} n e same size =
    e ∙ ap₂ (λ (l : Octets) (k : ℕ). l ++ drop k d) (take-length s ∙ same) (ap (λ (l : Octets). length l) same ∙ size)

-- all that is left of d from `at` on
pub rest : (d : Octets) (at size : ℕ) → length d ≡ size → take (size - at) (drop at d) ≡ drop at d
rest d at size is = take_all (size - at) (drop at d) (omega (arith, length-drop at d))

-- copied into d from `at` on
pub copied_at : (s d : Octets) (at size : ℕ) {t : Octets} → length d ≡ size
    → t ≡ take (length s) s ++ drop (length s) (take (size - at) (drop at d)) → at ≤ size
    → put_mid at (size - at) d t ≡ take at d ++ s ++ drop (at + length s) d
copied_at s d at size {t} is e h =
    rw (
      Post-is at size d h,
      drop_of_length-le d {i = size} (omega arith),
      append-nil t,
      e,
      take-length s,
      rest d at size is,
      drop-drop (length s) at d,
    )
    (sym (append_assoc (take at d) s (drop (at + length s) d)))
