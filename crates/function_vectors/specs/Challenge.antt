-- The challenge on a line. Assumes nothing: these are definitions.
use Rattle.std.specs.Prelude.{ℕ, List}
use Rattle.fields.specs.Fields.{octets_in}
use Rattle.aka.specs.Layout.{rand_size, sqn_size, amf_size}
use Rattle.function_vectors.specs.Answer.{amf_at, rand_at, sqn_at}
use Rattle.function_vectors.specs.declared.Challenge.{Challenge}

unfoldable pub challenge_on : List ℕ → Challenge
challenge_on line = record {
  rand = octets_in rand_size rand_at line;
  sqn = octets_in sqn_size sqn_at line;
  amf = octets_in amf_size amf_at line;
}
