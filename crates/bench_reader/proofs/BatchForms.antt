-- Why a line is no order or resync, and what it is where it is one. Assumes nothing.
use Prim.Native.Nat.{ℕ, ◌+◌, ◌*◌, ◌≤◌}
use mathlib.Core.Bool.{Bool, true, false, cond, and-false}
use mathlib.Core.List.{List, ◌++◌}
use mathlib.Core.Path.{◌≡◌, refl, sym, subst}
use borrow.Author.Tests.{eq-eqb, ne_eqb}
use lib.Dec.{ltb}
use lib.ListN.{length, drop}
use Rattle.std.specs.Prelude.{Some, None}
use Rattle.std.proofs.lemmas.Option.{cond_some, none-some}
use Rattle.octets.specs.Octets.{Octets, zeros}
use Rattle.octets.proofs.Strings.{drop_zeros}
use Rattle.aka.specs.Layout.{key_size, amf_size, rand_size, most_vectors}
use Rattle.bench_reader.specs.Commands.{Word, Command, bad_line, alone, rands_size, count_at, rand_field_at}
use Rattle.bench_reader.specs.Commands.{rand_fields, rand_octets, batch_form, batch_command, read_batch}
use Rattle.bench_reader.proofs.RandFields.{count_most}

-- the RANDs are read where all of them are there
abbrev pub WithRands : Word → (n from : ℕ) (line : List ℕ) → Command
WithRands word n from line = cond (rand_fields n from line) (batch_command word n from line) (alone bad_line)

module _ (word : Word) (n from : ℕ) (line : List ℕ) where
  pub no_rands : rand_fields n from line ≡ false → alone bad_line ≡ WithRands word n from line
  no_rands e = sym (rw e)

  pub rands_read : {rands : Octets} → rand_fields n from line ≡ true
      → rands ≡ rand_octets n from line ++ drop (rand_size * n) (zeros rands_size)
      → record {
        word = word;
        set = 0;
        k = zeros key_size;
        opc = zeros key_size;
        amf = zeros amf_size;
        count = n;
        rands = rands;
        seqhe = 0;
        next = 0;
      } ≡ WithRands word n from line
  unfolding batch_command
  rands_read f e = rw (f, e, drop_zeros rands_size (rand_size * n))

module _ (at : ℕ) (line : List ℕ) {n : ℕ} (given : Some n ≡ cond (ltb 0 (count_at at line)) (Some (count_at at line)) None) where
  count_there : (ltb 0 (count_at at line) ≡ true) × (count_at at line ≡ n)
  count_there = cond_some (ltb 0 (count_at at line)) (count_at at line) n (sym given)

  pub count_few : n ≤ most_vectors
  count_few = subst (λ (m : ℕ). m ≤ most_vectors) count_there.1 (count_most at line)

  pub other_length : (word : Word) → (length line ≡ rand_field_at (at + 1) n → ⊥) → alone bad_line ≡ read_batch word at line
  unfolding read_batch batch_form
  other_length word h = rw (count_there.1, ne_eqb (length line) (rand_field_at (at + 1) n) h, and-false (ltb 0 n))

  pub right_length : (word : Word) → length line ≡ rand_field_at (at + 1) n → WithRands word n (at + 1) line ≡ read_batch word at line
  unfolding read_batch batch_form
  right_length word l =
      rw (count_there.1, rw count_there.1 at count_there.0, eq-eqb (length line) (rand_field_at (at + 1) n) l)

module _ (at : ℕ) (line : List ℕ) (given : None ≡ cond (ltb 0 (count_at at line)) (Some (count_at at line)) None) where
  no_count_is : ltb 0 (count_at at line) ≡ false
  no_count_is = go (ltb 0 (count_at at line)) given
    where
      go : (b : Bool) → None ≡ cond b (Some (count_at at line)) None → b ≡ false
      go true h = absurd (none-some (count_at at line) h)
      go false h = refl

  pub no_count : (word : Word) → alone bad_line ≡ read_batch word at line
  unfolding read_batch batch_form
  no_count word = rw no_count_is

-- each test of the count that fails, and the line that has one
pub ruleset batch_forms = (count_few, no_count, other_length, right_length)
