-- Document 01: 'AMF, SEQ_HE (43), next index (5): 41 bytes. Reading what was written gives the record, and writing what was read gives the
-- bytes.' Document 02, #104: 'the centre's stays 41, as SEQ_HE (42) and next index (6)'. Assumes nothing: these are definitions.
use Rattle.std.specs.Prelude.{◌≡◌}
use Rattle.functions.specs.Sets.{sets}
use Rattle.aka.specs.Auc.{AucShaped}
use Rattle.aka.specs.Editions.{editions}
use Rattle.images.specs.Images.{RoundTrips}
use Rattle.auc_image.specs.Image.{image_size, format}

pub record AucImagePromise : Type 0 where
  pub size : image_size ≡ 41
  -- of every edition
  pub trips : RoundTrips (format editions sets) AucShaped
