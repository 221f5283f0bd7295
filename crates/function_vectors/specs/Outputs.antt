-- The seven outputs of the authentication functions. Assumes nothing: these are definitions.
use Rattle.std.specs.Prelude.{◌≡◌}
use Rattle.octets.specs.Octets.{Octets}
use Rattle.aka.specs.Functions.{Functions}
use Rattle.function_vectors.specs.declared.Outputs as declared

-- the outputs are those of a subscriber's functions
pub record Answers (F : Functions) (rand sqn amf : Octets) (o : declared.Outputs) : Type 0 where
  pub mac : o.mac ≡ F.f1 sqn rand amf
  pub macs : o.macs ≡ F.f1* sqn rand amf
  pub res : o.res ≡ F.f2 rand
  pub ck : o.ck ≡ F.f3 rand
  pub ik : o.ik ≡ F.f4 rand
  pub ak : o.ak ≡ F.f5 rand
  pub aks : o.aks ≡ F.f5* rand
