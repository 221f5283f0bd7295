-- AUTS of SQN_MS, which fits since the USIM is valid.
use Rattle.std.proofs.Common.{ℕ, ◌+◌, ◌*◌, ◌≡◌, ap, ap₂, ◌∙◌, arith}
use Rattle.octets.specs.Octets.{Octets, xor, encode}
use Rattle.functions.specs.Sets.{sets}
use Rattle.aka.specs.Functions.{dummy_amf}
use Rattle.aka.specs.Layout.{sqn_size, write_auts}
use Rattle.aka.specs.Sequence.{width_of, limit}
use Rattle.aka.specs.Editions.{editions}
use Rattle.aka.specs.Usim.{seq_ms, lowest_index, sqn_ms, make_auts}
use Rattle.aka.proofs.Editions.{room}
use Rattle.aka.proofs.Places.{within}
use Rattle.aka.proofs.Verdicts.{valid_parts}
use Rattle.usim_record.specs.Views.{usim_of}
use Rattle.functions.proofs.Prepared.{gives}
use Rattle.usim.proofs.Card.auts.Goals as goal

pub sqn_ms-requires : goal.sqn_ms-requires
sqn_ms-requires c =
    let usim = c.args.self.now.usim in
    let w = width_of editions usim.edition in
    let small = within (limit w) usim.places (valid_parts editions sets (usim_of usim) c.args.self.now.valid).1 in
    rw c.row-m.ensures.indices.number (omega (arith, room usim.edition _ small))

pub returns : goal.returns
unfolding make_auts
returns c = λ keys rand s.
    let law = gives keys rand c.args.prepared.now s in
    let usim = usim_of c.args.self.now.usim in
    let w = width_of editions usim.edition in
    let numbered : _ ≡ sqn_ms w usim =
    ap (λ (n : ℕ). n * seq_ms usim + lowest_index (seq_ms usim) usim.places) c.row-m.ensures.indices.number in
    let sqn : c.sqn_octets-sqn.result ≡ encode sqn_size (sqn_ms w usim) =
    c.sqn_octets-sqn.ensures ∙ ap (encode sqn_size) (c.sqn_ms.ensures ∙ numbered) in
    c.auts.ensures
    ∙ ap₂ (λ (x y : Octets). write_auts (record { concealed = x; mac = y }))
    (ap₂ xor sqn (c.f5s-ak.ensures ∙ law.f5*))
    (c.f1s-mac.ensures ∙ law.f1* _ _ ∙ ap (λ (x : Octets). (sets.under keys).f1* x rand dummy_amf) sqn)
