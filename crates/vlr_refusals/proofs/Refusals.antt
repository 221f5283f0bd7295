-- What holds where no refusal applies, by the laws of `aka`'s chain of refusals and of its tests. Assumes nothing.
use Prim.Native.Nat.{ℕ, ◌+◌, ◌*◌, ◌≤◌, ◌<◌}
use mathlib.Core.Bool.{Bool, true}
use mathlib.Core.Path.{◌≡◌}
use lib.ListN.{length}
use Rattle.octets.specs.Octets.{Octets}
use Rattle.aka.specs.Layout.{Kind, item_size, auts_size, most_vectors}
use Rattle.aka.specs.Vlr.{Vlr, most_held, store_refusal, ask_refusal, asked_refusal, sync_refusal}
use Rattle.aka.specs.Vlr.{renew_refusal}
use Rattle.aka.proofs.Replies.{clear}
use Rattle.aka.proofs.VlrLaws.{equals, counts, fits, room, some_held}

module _ (vlr : Vlr) (kind : Kind) (count : ℕ) (batch : Octets) where
  -- the batch has its length, and there is room for it
  pub store_fits : store_refusal vlr kind count batch ≡ 0 → (vlr.held + count ≤ most_held) × (length batch ≡ item_size kind * count)
  unfolding store_refusal
  store_fits e =
      let all = clear vlr _ _ _ _ _ e in
      ((room (vlr.held + count)).0 all.5, (fits kind count batch).0 all.2)

  pub renew_fits : renew_refusal vlr kind count batch ≡ 0 → (count ≤ most_vectors) × (length batch ≡ item_size kind * count)
  unfolding renew_refusal
  renew_fits e =
      let all = clear vlr _ _ _ _ _ e in
      (((counts count).0 all.1).1, (fits kind count batch).0 all.2)

pub ask_held : (vlr : Vlr) → ask_refusal vlr ≡ 0 → 0 < vlr.held
unfolding ask_refusal
ask_held vlr e = (some_held vlr.held).0 (clear vlr _ _ _ _ _ e).5

-- the lent part of an operation in Asked has the length named, and AUTS has its length
pub asked_sized : (vlr : Vlr) (sized : Bool) → asked_refusal vlr sized ≡ 0 → sized ≡ true
unfolding asked_refusal
asked_sized vlr sized e = (clear vlr _ _ _ _ _ e).2

pub sync_length : (vlr : Vlr) (auts : Octets) → sync_refusal vlr auts ≡ 0 → length auts ≡ auts_size
unfolding sync_refusal
sync_length vlr auts e = equals.0 (clear vlr _ _ _ _ _ e).2
