-- A buffer that is filled from the front, part by part: what is said of all of it, also behind what is filled. Assumes nothing.
use Prim.Native.Nat.{ℕ, ◌+◌, ◌-◌, ◌≤◌, ◌<◌}
use mathlib.Core.List.{[], ◌∷◌, ◌++◌, append-nil}
use mathlib.Core.Path.{◌≡◌, refl, sym, ap, ap₂, ◌∙◌}
use native.Mathlib.Omega.{arith}
use borrow.Rule.Slice.PartMut.{put_mid}
use lib.ListN.{length, take, drop, set, length-append, length-drop}
use lib.Seq.{take_at, drop_at, drop-drop, drop-length}
use Rattle.octets.specs.Octets.{Octets}
use Rattle.octets.proofs.Copies.{copied_at}

-- a part of n octets copied into d from `at` on
pub put_at : (s d : Octets) (at n : ℕ) {t : Octets} → length s ≡ n
    → t ≡ take (length s) s ++ drop (length s) (take (length d - at) (drop at d)) → at ≤ length d
    → put_mid at (length d - at) d t ≡ take at d ++ s ++ drop (at + n) d
put_at s d at n size e h = copied_at s d at (length d) refl e h ∙ ap (λ (k : ℕ). take at d ++ s ++ drop (at + k) d) size

-- the first `at` octets of the buffer that was d are `done`, and behind them stands what stood there
pub record Filled (d done : Octets) (at : ℕ) (b : Octets) : Type 0 where
  pub size : length done ≡ at
  pub is : b ≡ done ++ drop at d

pub filled : (d done : Octets) (at : ℕ) {b : Octets} → b ≡ done ++ drop at d → length b ≡ length d → at ≤ length d → Filled d done at b
filled d done at {b} e same h = record {
  size = omega (arith, ap length e, length-append done (drop at d), length-drop at d);
  is = e;
}

-- the first octet
pub put_first : (d : Octets) (v : ℕ) → 0 < length d → Filled d (v ∷ []) 1 (set d 0 v)
put_first [] v h = absurd (omega arith)
put_first (x ∷ d) v h = record { size = refl; is = refl }

-- a part of n octets behind what is filled
pub put_next : {d done b b' : Octets} {at : ℕ} (x : Octets) (n : ℕ) → Filled d done at b → b' ≡ take at b ++ x ++ drop (at + n) b
    → length b' ≡ length d → at + n ≤ length d → Filled d (done ++ x) (at + n) b'
put_next {d} {done} {b} {b'} {at} x n f put same h =
    filled d (done ++ x) (at + n) (put ∙ ap₂ (λ (l r : Octets). l ++ x ++ r) front behind) same h
  where
    front : take at b ≡ done
    front = ap (take at) f.is ∙ take_at done (drop at d) at f.size

    behind : drop (at + n) b ≡ drop (at + n) d
    behind =
        sym (drop-drop n at b)
        ∙ ap (drop n) (ap (drop at) f.is ∙ drop_at done (drop at d) at f.size)
        ∙ drop-drop n at d

-- nothing is left behind
pub filled_all : {d done b : Octets} {at : ℕ} → Filled d done at b → length d ≡ at → b ≡ done
filled_all {d} {done} {b} {at} f e =
    f.is ∙ ap (λ (l : Octets). done ++ l) (ap (λ (k : ℕ). drop k d) (sym e) ∙ drop-length d) ∙ append-nil done

-- a part put over the whole of a buffer
pub put_whole : (d x : Octets) {b : Octets} → b ≡ take 0 d ++ x ++ drop (0 + length x) d → length d ≡ length x → b ≡ x
put_whole d x e same =
    let all : 0 + length x ≡ length d = omega arith in
    e ∙ ap (λ (k : ℕ). x ++ drop k d) all ∙ ap (λ (l : Octets). x ++ l) (drop-length d) ∙ append-nil x
