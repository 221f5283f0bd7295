-- The code's values as the protocol has them. Assumes nothing: these are definitions.
use Rattle.std.specs.Prelude.{Bool, true, false}
use Rattle.aka.specs.Layout as layout
use Rattle.vlr_places.specs.declared.Kind.{Kind}
use Rattle.vlr_places.specs.declared.Kind.TheVariants.{Vector, Triplet}

abbrev pub kind_of : Kind → layout.Kind
kind_of Vector = layout.vector
kind_of Triplet = layout.triplet

-- whether the protocol's kind is the code's
abbrev pub is_kind : Kind → layout.Kind → Bool
is_kind Vector layout.vector = true
is_kind Vector layout.triplet = false
is_kind Triplet layout.vector = false
is_kind Triplet layout.triplet = true
