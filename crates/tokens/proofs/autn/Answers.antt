-- `autn` is the layout of AUTN.
use Rattle.std.proofs.Common.{[], ◌++◌, ◌≡◌, ◌∙◌, ap, length, refl, append_assoc, arith}
use Rattle.octets.specs.Octets.{Octets, zeros}
use Rattle.octets.proofs.PartByPart.{put_next, filled_all}
use Rattle.aka.specs.Layout.{sqn_size, amf_size, mac_size, autn_size, write_autn}
use Rattle.tokens.proofs.autn.Goals as goal

pub returns : goal.returns
unfolding write_autn
returns c =
    let concealed = c.xor.result in
    let amf = c.args.amf in
    let mac = c.args.mac in
    let concealed_long : length concealed ≡ sqn_size = c.xor.type_inv.1.0.1 in
    let amf_long : length amf ≡ amf_size = c.well_formed.1.1.0.1.0.1 in
    let mac_long : length mac ≡ mac_size = c.well_formed.1.1.1.0.1.0.1 in
    let one =
    put_next {d = zeros autn_size} {done = []} {at = 0} concealed sqn_size (record { size = refl; is = refl })
    (rw concealed_long at c.put.ensures) c.put.auto.buffer (omega arith) in
    let two = put_next amf amf_size one (rw amf_long at c.put-2.ensures) (c.put-2.auto.buffer ∙ c.put.auto.buffer) (omega arith) in
    let all = put_next mac mac_size two (rw mac_long at c.put-3.ensures)
    (c.put-3.auto.buffer ∙ c.put-2.auto.buffer ∙ c.put.auto.buffer) (omega arith) in
    filled_all all refl ∙ append_assoc concealed amf mac ∙ ap (λ (l : Octets). l ++ (amf ++ mac)) c.xor.ensures
