-- `auts` is the layout of AUTS.
use Rattle.std.proofs.Common.{[], ◌++◌, ◌≡◌, ◌∙◌, ap, length, refl, arith}
use Rattle.octets.specs.Octets.{Octets, zeros}
use Rattle.octets.proofs.PartByPart.{put_next, filled_all}
use Rattle.aka.specs.Layout.{sqn_size, mac_size, auts_size, write_auts}
use Rattle.tokens.proofs.auts.Goals as goal

pub returns : goal.returns
unfolding write_auts
returns c =
    let concealed = c.xor.result in
    let macs = c.args.macs in
    let concealed_long : length concealed ≡ sqn_size = c.xor.type_inv.1.0.1 in
    let macs_long : length macs ≡ mac_size = c.well_formed.1.1.0.1.0.1 in
    let one =
    put_next {d = zeros auts_size} {done = []} {at = 0} concealed sqn_size (record { size = refl; is = refl })
    (rw concealed_long at c.put.ensures) c.put.auto.buffer (omega arith) in
    let all = put_next macs mac_size one (rw macs_long at c.put-2.ensures) (c.put-2.auto.buffer ∙ c.put.auto.buffer) (omega arith) in
    filled_all all refl ∙ ap (λ (l : Octets). l ++ macs) c.xor.ensures
