-- `seven` gives the seven outputs of the keys.
use Rattle.std.proofs.Common.{subst, ◌∙◌}
use Rattle.functions.specs.declared.Keys.{Keys}
use Rattle.functions.specs.Challenge.{keys_of}
use Rattle.functions.specs.PreparedRand.{Prepared}
use Rattle.functions.proofs.Prepared.{gives}
use Rattle.function_vectors.proofs.seven.Goals as goal

pub returns : goal.returns
returns c =
    let prepared = c.prepare-prepared in
    let made = subst (λ (keys : Keys). Prepared (keys_of keys) c.args.challenge.rand prepared.result) c.new-keys.ensures prepared.ensures in
    let law = gives _ _ prepared.result made in
    record {
      mac = c.f1-mac.ensures ∙ law.f1 _ _;
      macs = c.f1s-macs.ensures ∙ law.f1* _ _;
      res = c.f2_f5.ensures.0 ∙ law.f2;
      ck = c.f3-ck.ensures ∙ law.f3;
      ik = c.f4-ik.ensures ∙ law.f4;
      ak = c.f2_f5.ensures.1 ∙ law.f5;
      aks = c.f5s-aks.ensures ∙ law.f5*;
    }
