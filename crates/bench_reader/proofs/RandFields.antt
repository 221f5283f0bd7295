-- Laws of the RANDs of a line, and of their count. Assumes nothing.
use Prim.Native.Nat.{ℕ, zero, suc, ◌+◌, ◌-◌, ◌*◌, ◌≤◌, ◌<◌}
use mathlib.Core.Bool.{true, false, ◌&&◌, and-false}
use mathlib.Core.List.{List, ◌++◌, append_assoc}
use mathlib.Core.Logic.{⊎_elim}
use mathlib.Core.Path.{◌≡◌, sym, ap, ◌∙◌}
use native.Mathlib.Nat.{eq-or-lt_of_le}
use native.Mathlib.Numerals.{add-one}
use native.Mathlib.Omega.{arith}
use borrow.Rule.Slice.PartMut.{put_mid, Post-is}
use Rattle.std.proofs.lemmas.Bool.Decides.{nat_tests}
use lib.ListN.{length, drop}
use lib.Seq.{take_at, drop-append-add, drop-drop}
use Rattle.octets.specs.Octets.{Octets}
use Rattle.fields.specs.Fields.{is_hex_field, octets_in}
use Rattle.aka.specs.Layout.{rand_size, most_vectors}
use Rattle.bench_reader.specs.Commands.{count_at, rand_field_at, rand_fields, rand_octets}

module _ (from : ℕ) (line : List ℕ) where
  -- one RAND that is missing is enough
  pub missing : (n i : ℕ) → i < n → is_hex_field rand_size (rand_field_at from i) line ≡ false → rand_fields n from line ≡ false
  unfolding rand_fields
  missing zero i h e = absurd (omega arith)
  missing (suc n) i h e = ⊎_elim last (λ g. rw (missing n i g e)) (eq-or-lt_of_le (omega arith))
    where
      last : i ≡ n → (rand_fields n from line && is_hex_field rand_size (rand_field_at from n) line) ≡ false
      last s = rw (← s, e) (and-false (rand_fields i from line))

  pub one_more : (i : ℕ) → rand_fields i from line ≡ true → is_hex_field rand_size (rand_field_at from i) line ≡ true
      → rand_fields (i + 1) from line ≡ true
  unfolding rand_fields
  one_more i a b = rw (add-one i, a, b)

  -- the next RAND is put behind the others, of which each is 16 octets
  pub put_rand : (i : ℕ) (before : Octets) {out x : Octets} → length (rand_octets i from line) ≡ rand_size * i
      → out ≡ rand_octets i from line ++ drop (rand_size * i) before → x ≡ octets_in rand_size (rand_field_at from i) line
      → put_mid (rand_size * i) (rand_size * i + rand_size - rand_size * i) out x
      ≡ rand_octets (i + 1) from line ++ drop (rand_size * (i + 1)) before
  unfolding rand_octets
  put_rand i before {out} {x} size is is_x =
      let next : rand_size * i + rand_size ≡ rand_size * (i + 1) = omega arith in
      let rest :
      drop (rand_size * i + rand_size) (rand_octets i from line ++ drop (rand_size * i) before)
      ≡ drop (rand_size * (i + 1)) before =
      ap (λ (n : ℕ). drop (n + rand_size) (rand_octets i from line ++ drop (rand_size * i) before)) (sym size)
      ∙ drop-append-add (rand_octets i from line) (drop (rand_size * i) before) rand_size
      ∙ drop-drop rand_size (rand_size * i) before
      ∙ ap (λ (n : ℕ). drop n before) next in
      rw (
        Post-is (rand_size * i) (rand_size * i + rand_size) out (omega arith),
        is,
        is_x,
        take_at (rand_octets i from line) (drop (rand_size * i) before) (rand_size * i) size,
        rest,
        add-one i,
      )
      (sym (append_assoc (rand_octets i from line) _ _))

-- ---- the count

module _ (at : ℕ) (line : List ℕ) where
  pub count_most : count_at at line ≤ most_vectors
  unfolding count_at
  count_most = grind (arith, nat_tests)
