-- The keys or AMF are refused, or writing the record that is made is all that is left.
use Rattle.std.proofs.Common.{ℕ, ap, ap₂, ◌∙◌}
use borrow.Author.Tests.{eq-eqb, ne_eqb}
use Rattle.aka.specs.Layout.{amf_size}
use Rattle.aka.specs.Auc.{new_auc}
use Rattle.vetrhoss.proofs.NewImages.{handed, auc_refused, auc_amf, auc_written}
use Rattle.vetrhoss.proofs.new_auc.Goals as goal

pub returns-in_err-keys : goal.returns-in_err-keys
returns-in_err-keys c =
    let args = c.args in
    auc_refused args.edition args.set args.k.now args.opc.now args.image.now args.amf.now _ _ c.from_residual.ensures
    c.in_err-keys.ensures.refusal

pub returns-then-amf-ne-AMF_SIZE : goal.returns-then-amf-ne-AMF_SIZE
returns-then-amf-ne-AMF_SIZE c =
    let args = c.args in
    auc_amf args.edition args.set args.k.now args.opc.now args.image.now args.amf.now c.in_ok-keys.ensures.refusal
    (ne_eqb _ amf_size c.if-amf-ne-AMF_SIZE.true)

pub returns-in_err-write : goal.returns-in_err-write
returns-in_err-write c =
    let args = c.args in
    let two = c.if-amf-ne-AMF_SIZE.false in
    let number = handed _ _ c.from_residual-in_err-write.ensures in
    auc_written args.edition args.set args.k.now args.opc.now args.image.now args.amf.now c.in_ok-keys.ensures.refusal
    (eq-eqb _ amf_size two) _ _ _
    (c.new.ensures ∙ ap₂ (new_auc args.edition) c.in_ok-keys.ensures.keys c.array.ensures)
    (ap (λ (n : ℕ). record { refusal = n; image = c.write.new.buffer }) number ∙ c.in_err-write.ensures)

pub returns : goal.returns
returns c =
    let args = c.args in
    let two = c.if-amf-ne-AMF_SIZE.false in
    auc_written args.edition args.set args.k.now args.opc.now args.image.now args.amf.now c.in_ok-keys.ensures.refusal
    (eq-eqb _ amf_size two) _ _ _
    (c.new.ensures ∙ ap₂ (new_auc args.edition) c.in_ok-keys.ensures.keys c.array.ensures)
    c.in_ok-write.ensures
