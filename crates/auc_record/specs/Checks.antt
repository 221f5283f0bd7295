-- What the check of refusals 1 to 4 found. Assumes nothing: these are definitions.
use Rattle.std.specs.Prelude.{ℕ, Bool, false, ◌&&◌, Result, Ok, Err, ◌≡◌, eqb, length}
use Rattle.octets.specs.Octets.{Octets}
use Rattle.functions.specs.Sets.{sets}
use Rattle.aka.specs.Editions.{editions}
use Rattle.aka.specs.Auc as aka
use Rattle.auc_record.specs.declared.Outcome.{Outcome}
use Rattle.auc_record.specs.Views.{outcome_of}

-- refusals 1 to 4, by the length of the buffer; `lent`: whatever else is lent has its length. `rest` is the outcome where they do not apply
abbrev pub first_refusals : aka.Auc → (default count : ℕ) (rands : Octets) (size : ℕ) (lent : Bool) (rest : aka.Outcome) → aka.Outcome
first_refusals auc default count rands size lent rest =
    let n = aka.count_of default count in
    aka.unless_refused editions sets auc count n (aka.lent_for n (length rands) size && lent) rands rest

-- none of the refusals applies, and n is the count that results; or the outcome is the refusal's, whatever the rest
abbrev pub Found : (refusals : aka.Outcome → aka.Outcome) (n : ℕ) → Result ℕ Outcome → Type 0
Found refusals n (Ok m) = (m ≡ n) × ((rest : aka.Outcome) → refusals rest ≡ rest)
Found refusals n (Err o) = ((rest : aka.Outcome) → refusals rest ≡ outcome_of o) × (eqb (aka.refusal_of (outcome_of o)) 0 ≡ false)
