-- What is read has its length and a valid record.
use Rattle.images.proofs.RoundTrips.{sound_read}
use Rattle.usim_image.proofs.RoundTrips.{round_trips}
use Rattle.usim_image.proofs.read.Goals as goal

pub returns-clause-sound : goal.returns-clause-sound
returns-clause-sound c = sound_read _ _ round_trips _ _ c.read.result c.read.ensures
