-- The judgement: first MAC, then freshness.
use Rattle.std.proofs.Common.{◌≡◌, refl, sym, ap, ◌∙◌}
use Rattle.octets.specs.Octets.{xor, decode}
use Rattle.functions.specs.Challenge.{keys_of}
use Rattle.functions.specs.Sets.{sets}
use Rattle.functions.proofs.Prepared.{gives}
use Rattle.aka.specs.Layout.{read_autn}
use Rattle.aka.specs.Editions.{editions}
use Rattle.aka.specs.Usim.{mac_failure, judgement, answer_with}
use Rattle.usim_record.specs.declared.Verdict.TheVariants.{Mac}
use Rattle.usim_record.specs.Views.{usim_of}
use Rattle.usim.proofs.Answered.{unchanged_for}
use Rattle.usim.proofs.Card.judge.Goals as goal

pub returns-then-not-mac_right : goal.returns-then-not-mac_right
unfolding judgement answer_with
returns-then-not-mac_right c = λ rand s.
    let law = gives _ rand c.args.prepared.now s in
    let usim = usim_of c.args.self.now.usim in
    let sqn = c.sqn_in-sqn.ensures ∙ ap (xor (read_autn c.args.autn).concealed) (c.f2_f5-both.ensures.1 ∙ law.f5) in
    let different = sym (c.mac_right.ensures usim.keys rand s sqn) ∙ c.if-not-mac_right.true in
    let mac : judgement editions sets usim rand c.args.autn ≡ mac_failure = rw different refl in
    rw mac (unchanged_for usim rand c.args.autn _ Mac _ refl refl refl c.unchanged.ensures)

pub returns : goal.returns
returns c = λ rand s.
    let law = gives _ rand c.args.prepared.now s in
    let sqn = c.sqn_in-sqn.ensures ∙ ap (xor (read_autn c.args.autn).concealed) (c.f2_f5-both.ensures.1 ∙ law.f5) in
    c.judge_sqn.ensures rand c.args.autn
    (record {
      prepared = s;
      mac = sym (c.mac_right.ensures (keys_of c.args.self.now.usim.keys) rand s sqn) ∙ c.if-not-mac_right.false;
      sqn = c.sqn_number.ensures.0 ∙ ap decode sqn;
      fits = c.sqn_number.ensures.1;
      res = c.f2_f5-both.ensures.0 ∙ law.f2;
    })
