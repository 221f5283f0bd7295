-- The record that was read is valid, and so is the next, of the same edition.
use Rattle.std.proofs.Common.{ℕ, sym, ap, ◌∙◌}
use Rattle.aka.specs.Sequence.{width_of}
use Rattle.aka.specs.Editions.{editions}
use Rattle.usim_image.specs.Image.{image_size}
use Rattle.vetrhoss.proofs.UsimAnswers.{same_edition, next_valid}
use Rattle.vetrhoss.proofs.challenge.Goals as goal

pub hand_on-requires : goal.hand_on-requires
hand_on-requires c =
    let sound = c.in_ok-usim.ensures.sound in
    let due = c.challenge-a.ensures.answer in
    let told = c.challenge-a.ensures.sqn in
    record {
      next = (next_valid _ _ _ sound.1 _ due told.0 told.1, told.1);
      size = sound.0 ∙ ap (λ (e : ℕ). image_size (width_of editions e)) (sym (same_edition _ _ _ _ due));
    }
