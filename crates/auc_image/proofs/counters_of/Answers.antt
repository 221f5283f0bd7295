-- `counters_of` spells the bits of SEQ_HE and of the next index.
use Rattle.std.proofs.Common.{sym, ap, ◌∙◌}
use lib.Pow.{lt_of_le_ones}
use Rattle.octets.specs.Octets.{encode}
use Rattle.functions.specs.Sets.{sets}
use Rattle.aka.specs.Layout.{sqn_size}
use Rattle.aka.specs.Sequence.{width_of, seq_bits}
use Rattle.aka.specs.Editions.{editions}
use Rattle.aka.proofs.Outcomes.{valid_iff}
use Rattle.auc_record.specs.Views.{auc_of}
use Rattle.auc_image.proofs.Bits.{one_number}
use Rattle.auc_image.proofs.counters_of.Goals as goal

pub sqn-requires : goal.sqn-requires
sqn-requires c = ((valid_iff editions sets (auc_of c.args.auc)).0 c.requires).1

pub returns : goal.returns
returns c =
    let auc = c.args.auc in
    let w = width_of editions auc.edition in
    let valid = (valid_iff editions sets (auc_of auc)).0 c.requires in
    c.sqn_octets.ensures
    ∙ ap (encode sqn_size)
    (c.sqn.ensures
    ∙ sym (one_number (seq_bits w) w auc.seqhe auc.next (lt_of_le_ones (seq_bits w) valid.1) valid.2))
