-- Sizes that the calls of the C interface ask for, and what becomes of an image. Assumes nothing: these are definitions.
use Rattle.std.specs.Prelude.{ℕ, Bool, ◌&&◌, eqb, length}
use Rattle.octets.specs.Octets.{Octets}
use Rattle.aka.specs.Layout.{key_size, res_size, ck_size, ik_size, auts_size}
use Rattle.aka.specs.Usim as card
use Rattle.aka.specs.Auc as centre

abbrev pub has : (size : ℕ) → Octets → Bool
has size x = eqb (length x) size

-- K, and OP or OPc
unfoldable pub are_keys : (k op : Octets) → Bool
are_keys k op = has key_size k && has key_size op

-- the buffers for the answer have their sizes
abbrev pub answer_sized : (res ck ik auts : Octets) → Bool
answer_sized res ck ik auts = has res_size res && has ck_size ck && has ik_size ik && has auts_size auts

-- the image becomes that of the next record with an acceptance
abbrev pub usim_image_after : card.Verdict → (image next : Octets) → Octets
usim_image_after card.accepted image next = next
usim_image_after card.mac_failure image next = image
usim_image_after card.sync_failure image next = image
usim_image_after (card.refused number) image next = image

-- the image becomes that of the next record where a batch is given
abbrev pub auc_image_after : centre.Outcome → (image next : Octets) → Octets
auc_image_after centre.given image next = next
auc_image_after centre.kept image next = next
auc_image_after centre.reset image next = next
auc_image_after (centre.refused number) image next = image
auc_image_after (centre.repeated i j) image next = image
