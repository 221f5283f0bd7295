-- The keys are refused, or writing the record that is made is all that is left.
use Rattle.std.proofs.Common.{ℕ, ap, ◌∙◌}
use Rattle.aka.specs.Editions.{editions}
use Rattle.aka.specs.Usim.{new_usim}
use Rattle.vetrhoss.proofs.NewImages.{handed, usim_refused, usim_written}
use Rattle.vetrhoss.proofs.new_usim.Goals as goal

pub returns-in_err-keys : goal.returns-in_err-keys
returns-in_err-keys c =
    let args = c.args in
    usim_refused args.edition args.set args.k.now args.opc.now args.image.now _ _ c.from_residual.ensures c.in_err-keys.ensures.refusal

pub returns-in_err-write : goal.returns-in_err-write
returns-in_err-write c =
    let args = c.args in
    let number = handed _ _ c.from_residual-in_err-write.ensures in
    usim_written args.edition args.set args.k.now args.opc.now args.image.now c.in_ok-keys.ensures.refusal _ _ _
    (c.new.ensures ∙ ap (new_usim editions args.edition) c.in_ok-keys.ensures.keys)
    (ap (λ (n : ℕ). record { refusal = n; image = c.write.new.buffer }) number ∙ c.in_err-write.ensures)

pub returns : goal.returns
returns c =
    let args = c.args in
    usim_written args.edition args.set args.k.now args.opc.now args.image.now c.in_ok-keys.ensures.refusal _ _ _
    (c.new.ensures ∙ ap (new_usim editions args.edition) c.in_ok-keys.ensures.keys) c.in_ok-write.ensures
