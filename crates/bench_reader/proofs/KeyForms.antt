-- Why a line is no key line, and what it is where it is one. Assumes nothing.
use Prim.Native.Nat.{ℕ}
use mathlib.Core.Bool.{Bool, true, false, cond, and-false}
use mathlib.Core.List.{List}
use mathlib.Core.Path.{◌≡◌, refl, sym}
use borrow.Author.Tests.{eq-eqb, ne_eqb}
use lib.ListN.{length, get_or, length-replicate}
use Rattle.std.specs.Prelude.{Option, Some, None}
use Rattle.std.proofs.lemmas.Option.{cond_some, none-some}
use Rattle.octets.specs.Octets.{Octets, zeros}
use Rattle.fields.specs.Fields.{is_hex_field, octets_in, read_field_into, is_decimal_digit, decimal_digit}
use Rattle.fields.proofs.FieldLaws.{is_digit, low_digit, high_digit, field_there, field_octets}
use Rattle.aka.specs.Layout.{key_size, amf_size}
use Rattle.bench_reader.specs.Commands.{key, bad_line, alone, set_at, k_at, opc_at, key_amf_at, key_length}
use Rattle.bench_reader.specs.Commands.{key_form, key_command, read_key, rands_size}

-- the octets of a hex field, where it is there
abbrev pub OctetsAt : (size at : ℕ) (line : List ℕ) → Option Octets
OctetsAt size at line = cond (is_hex_field size at line) (Some (octets_in size at line)) None

-- what `hex_field` says of a room for n octets
pub octets_read : (n at : ℕ) (line : List ℕ) {ok : Bool} {after : Octets} → ok ≡ is_hex_field (length (zeros n)) at line
    → after ≡ read_field_into (zeros n) at line → ok ≡ true → Some after ≡ OctetsAt n at line
octets_read n at line said is e =
    let size = length-replicate {A = ℕ} n 0 in
    let there = field_there (zeros n) at line said e in
    let octets = field_octets (zeros n) at line said is e in
    rw (rw size at there, rw size at octets)

module _ (line : List ℕ) where
  no_key : key_form line ≡ false → alone bad_line ≡ read_key line
  unfolding read_key
  no_key e = rw e

  pub key_length_lem : (length line ≡ key_length → ⊥) → alone bad_line ≡ read_key line
  unfolding key_form
  key_length_lem n = no_key (rw (ne_eqb (length line) key_length n))

  pub key_set : is_decimal_digit (get_or line set_at 0) ≡ false → alone bad_line ≡ read_key line
  unfolding key_form
  key_set e = no_key (simp (e, and-false))

  no_octets : (size at : ℕ) → None ≡ OctetsAt size at line → is_hex_field size at line ≡ false
  no_octets size at e = go (is_hex_field size at line) e
    where
      go : (b : Bool) → None ≡ cond b (Some (octets_in size at line)) None → b ≡ false
      go true h = absurd (none-some (octets_in size at line) h)
      go false h = refl

  pub key_k : None ≡ OctetsAt key_size k_at line → alone bad_line ≡ read_key line
  unfolding key_form
  key_k e = no_key (simp (no_octets key_size k_at e, and-false))

  pub key_opc : None ≡ OctetsAt key_size opc_at line → alone bad_line ≡ read_key line
  unfolding key_form
  key_opc e = no_key (simp (no_octets key_size opc_at e, and-false))

  pub key_amf : None ≡ OctetsAt amf_size key_amf_at line → alone bad_line ≡ read_key line
  unfolding key_form
  key_amf e = no_key (simp (no_octets amf_size key_amf_at e, and-false))

  pub key_read : {k opc amf : Octets} → length line ≡ key_length → is_decimal_digit (get_or line set_at 0) ≡ true
      → Some k ≡ OctetsAt key_size k_at line → Some opc ≡ OctetsAt key_size opc_at line → Some amf ≡ OctetsAt amf_size key_amf_at line
      → record {
        word = key;
        set = decimal_digit (get_or line set_at 0);
        k = k;
        opc = opc;
        amf = amf;
        count = 0;
        rands = zeros rands_size;
        seqhe = 0;
        next = 0;
      } ≡ read_key line
  unfolding read_key key_form key_command
  key_read {k} {opc} {amf} n s is-k is-opc is-amf =
      let a = cond_some (is_hex_field key_size k_at line) (octets_in key_size k_at line) k (sym is-k) in
      let b = cond_some (is_hex_field key_size opc_at line) (octets_in key_size opc_at line) opc (sym is-opc) in
      let c = cond_some (is_hex_field amf_size key_amf_at line) (octets_in amf_size key_amf_at line) amf (sym is-amf) in
      rw (eq-eqb (length line) key_length n, s, a.0, b.0, c.0, a.1, b.1, c.1)

-- each test of a key line that fails, and the line that is one
pub ruleset key_forms = (key_length_lem, key_set, key_k, key_opc, key_amf, key_read, low_digit, high_digit, is_digit)
