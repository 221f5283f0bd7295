-- `fill` puts the parts of an image behind each other.
use Rattle.std.proofs.Common.{◌++◌, ◌≡◌, length, append_assoc, ap, ◌∙◌, arith, rules}
use Rattle.octets.specs.Octets.{Octets}
use Rattle.octets.proofs.PartByPart.{filled, put_next, filled_all}
use Rattle.functions.specs.Sets.{sets}
use Rattle.aka.specs.Layout.{amf_size, sqn_size}
use Rattle.aka.specs.Editions.{editions}
use Rattle.aka.proofs.Outcomes.{valid_iff}
use Rattle.auc_record.specs.Views.{auc_of}
use Rattle.images.specs.Head.{head, head_size}
use Rattle.auc_image.specs.Image.{image}
use Rattle.auc_image.proofs.AucFormatImageFormat.fill.Goals as goal

pub put_head-requires-clause-admitted : goal.put_head-requires-clause-admitted
put_head-requires-clause-admitted c = ((valid_iff editions sets (auc_of c.args.held)).0 c.requires.valid).0

pub returns : goal.returns
unfolding image
returns c =
    let auc = auc_of c.args.held in
    let d = c.args.image.now in
    let last = c.counters_of.result in
    let amf_long : length auc.amf ≡ amf_size = search rules in
    let last_long : length last ≡ sqn_size = search rules in
    let same = c.put_head.auto.image in
    let same2 = c.put.auto.buffer ∙ same in
    let one = filled d (head auc.edition auc.keys) head_size c.put_head.ensures same (omega arith) in
    let two = put_next auc.amf amf_size one (rw amf_long at c.put.ensures) same2 (omega arith) in
    let three = put_next last sqn_size two (rw last_long at c.put-2.ensures) (c.put-2.auto.buffer ∙ same2) (omega arith) in
    filled_all three c.requires.size
    ∙ append_assoc (head auc.edition auc.keys) auc.amf last
    ∙ ap (λ (x : Octets). head auc.edition auc.keys ++ (auc.amf ++ x)) c.counters_of.ensures
