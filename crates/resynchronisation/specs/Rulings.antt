-- What RAND and AUTS of a synchronisation failure rule for SEQ_HE and a batch of n, in the terms of `aka` `Auc`. Assumes nothing.
use Rattle.std.specs.Prelude.{ℕ, ◌≤◌, Bool, true, false, ◌&&◌, not, Result, Ok, Err, ◌≡◌}
use Rattle.octets.specs.Octets.{Octets}
use Rattle.aka.specs.Refusals.{number_of}
use Rattle.aka.specs.Functions.{Functions}
use Rattle.aka.specs.Sequence.{limit}
use Rattle.aka.specs.Auc.{in_range, mac_s_right, seq_ms_in, kept_or_reset}
use Rattle.resynchronisation.specs.declared.Refused.{Refused}
use Rattle.resynchronisation.specs.declared.Ruling.{Ruling}
use Rattle.resynchronisation.specs.declared.Ruling.TheVariants.{Kept, Reset}

-- whether SEQ_HE is kept, and the number that the batch follows
abbrev pub kept_in : Ruling → Bool
kept_in (Kept from) = true
kept_in (Reset from) = false

abbrev pub from_in : Ruling → ℕ
from_in (Kept from) = from
from_in (Reset from) = from

-- `w`: the width of the index in bits
module _ (w : ℕ) (F : Functions) (rand auts : Octets) (seqhe n : ℕ) where
  -- refusal 5 applies
  abbrev pub refused : Bool
  refused = not (in_range seqhe (seq_ms_in w F rand auts) n) && not (mac_s_right F rand auts)

  -- what is ruled, where refusal 5 applies too
  pub record Follows (applies : Bool) (r : Ruling) : Type 0 where
    pub refused : refused ≡ applies
    pub kept : kept_in r ≡ in_range seqhe (seq_ms_in w F rand auts) n
    pub from : from_in r ≡ kept_or_reset seqhe (seq_ms_in w F rand auts) n
    -- SEQ_HE is within the limit, and so is the SEQ of any 48 bits
    pub within : from_in r ≤ limit w

  abbrev pub Ruled : Result Ruling Refused → Type 0
  Ruled (Ok ruling) = Follows false ruling
  Ruled (Err r) = Follows true r.ruling × (number_of r.refusal ≡ 5)
