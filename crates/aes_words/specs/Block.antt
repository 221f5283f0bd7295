-- The code's block as octets. Assumes nothing: these are definitions.
use Rattle.octets.specs.Octets.{Octets}
use Rattle.aes_words.specs.declared.Block.{Block}
use Rattle.aes_words.specs.Words.{columns}

abbrev pub octets_of : Block → Octets
octets_of s = columns s.a s.b s.c s.d
