-- Tests of sizes. Assumes nothing.
use mathlib.Core.Bool.{true, and-eq-true_iff}
use mathlib.Core.Path.{◌≡◌}
use borrow.Author.Tests.{eqb-true}
use lib.Dec.{eqb}
use lib.ListN.{length}
use Rattle.octets.specs.Octets.{Octets}
use Rattle.aka.specs.Layout.{key_size}
use Rattle.interface_answers.specs.Answers.{are_keys}

pub key_sizes : (k op : Octets) → are_keys k op ≡ true → (length k ≡ key_size) × (length op ≡ key_size)
unfolding are_keys
key_sizes k op e =
    let both = (and-eq-true_iff (eqb (length k) key_size) (eqb (length op) key_size)).0 e in
    (eqb-true (length k) key_size both.0, eqb-true (length op) key_size both.1)
