-- The verdicts other than acceptance. Assumes nothing: these are definitions.
use Rattle.aka.specs.Usim as card

abbrev pub Failed : card.Verdict → Type 0
Failed card.accepted = ⊥
Failed card.mac_failure = Unit {0}
Failed card.sync_failure = Unit {0}
Failed (card.refused number) = Unit {0}
