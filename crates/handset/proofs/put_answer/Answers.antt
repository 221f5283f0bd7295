-- RES, CK and IK are put behind each other.
use Rattle.std.proofs.Common.{[], ◌≡◌, refl, ◌∙◌, length, append_assoc, rules, arith}
use Rattle.octets.proofs.PartByPart.{put_next, filled_all}
use Rattle.aka.specs.Layout.{res_size, ck_size, ik_size, write_answer}
use Rattle.handset.proofs.put_answer.Goals as goal

pub returns : goal.returns
unfolding write_answer
returns c =
    let a = c.args in
    let res : length a.res ≡ res_size = search rules in
    let ck : length a.ck ≡ ck_size = search rules in
    let ik : length a.ik ≡ ik_size = search rules in
    let one = c.put.auto.buffer in
    let two = c.put-2.auto.buffer ∙ one in
    let three = c.put-3.auto.buffer ∙ two in
    let put = rw res at c.put.ensures in
    let first = put_next {done = []} {at = 0} a.res res_size (record { size = refl; is = refl }) put one (omega arith) in
    let second = put_next a.ck ck_size first (rw ck at c.put-2.ensures) two (omega arith) in
    let third = put_next a.ik ik_size second (rw ik at c.put-3.ensures) three (omega arith) in
    filled_all third c.requires ∙ append_assoc a.res a.ck a.ik
