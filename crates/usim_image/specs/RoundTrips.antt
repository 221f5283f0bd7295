-- Document 01: '32 places of 43 bits by index: 205 bytes. Reading what was written gives the record, and writing what was read gives the
-- bytes.' Document 02, #104: 'The card image becomes 369 bytes'. Assumes nothing: these are definitions.
use Rattle.std.specs.Prelude.{◌≡◌}
use Rattle.functions.specs.Sets.{sets}
use Rattle.aka.specs.Sequence.{width_of}
use Rattle.aka.specs.Editions.{editions}
use Rattle.aka.specs.Usim.{UsimShaped}
use Rattle.images.specs.Images.{RoundTrips}
use Rattle.usim_image.specs.Image.{image_size, format}

pub record UsimImagePromise : Type 0 where
  pub size1 : image_size (width_of editions 1) ≡ 205
  pub size2 : image_size (width_of editions 2) ≡ 369
  -- of every edition
  pub trips : RoundTrips (format editions sets) (UsimShaped editions)
