-- A new image, from what writing it answers. Assumes nothing.
use Prim.Native.Nat.{ℕ}
use Prim.Native.Nat.{◌<◌}
use mathlib.Core.Bool.{Bool, true, false, not, cond, ◌&&◌}
use mathlib.Core.Path.{◌≡◌, refl, sym, ap, ◌∙◌}
use native.Mathlib.Omega.{arith}
use Rattle.std.specs.Prelude.{Result, Ok, Err, IsErr, IsErrAnd}
use lib.Dec.{eqb}
use lib.ListN.{length}
use Rattle.octets.specs.Octets.{Octets}
use Rattle.functions.specs.Sets.{is_set, sets}
use Rattle.functions.proofs.Protocol.{usim_holds, auc_holds}
use Rattle.aka.specs.Functions.{Keys}
use Rattle.aka.specs.Layout.{amf_size}
use Rattle.aka.specs.Refusals.{number_of}
use Rattle.aka.specs.declared.Refusal.{Refusal}
use Rattle.aka.specs.declared.Refusal.TheVariants.{Invalid, Count, Length, SameRand, MacS, Limit, State, Empty, Full}
use Rattle.aka.specs.Usim.{Usim, valid_usim, new_usim}
use Rattle.aka.specs.Auc.{Auc, valid_auc, new_auc}
use Rattle.aka.specs.Sequence.{width_of}
use Rattle.aka.specs.Editions.{editions, is_edition}
use Rattle.images.specs.Images.{Written}
use Rattle.usim_image.specs.Image as usim
use Rattle.auc_image.specs.Image as auc
use Rattle.interface_answers.specs.Results as results
use Rattle.interface_answers.specs.Answers.{has, are_keys}
use Rattle.vetrhoss.specs.Interface.{Returned, done, refused, new_keys_refusal, new_usim_call, new_auc_call}

abbrev pub returned_of : Written → Returned Octets
returned_of w = record { result = w.refusal; octets = w.image }

-- refusals are numbered from 1
some : (r : Refusal) → 0 < number_of r
some Invalid = omega arith
some Count = omega arith
some Length = omega arith
some SameRand = omega arith
some MacS = omega arith
some Limit = omega arith
some State = omega arith
some Empty = omega arith
some Full = omega arith

by_size : (fits : Bool) (buffer image : Octets)
    → returned_of (cond (not fits) (record { refusal = 3; image = buffer }) (record { refusal = 0; image = image }))
    ≡ cond (not fits) (refused 3 buffer) (done image)
by_size true buffer image = refl
by_size false buffer image = refl

abbrev keys_are : (set : ℕ) (k opc : Octets) → Keys
keys_are set k opc = record { set = set; k = k; opc = opc }

-- the tests of the keys: edition and set, then sizes
abbrev number : (known sized : Bool) → ℕ
number known sized = cond (not known) 1 (cond (not sized) 3 0)

passed : (known sized : Bool) → 0 ≡ number known sized → (known ≡ true) × (sized ≡ true)
passed false sized e = absurd (omega (arith, e))
passed true false e = absurd (omega (arith, e))
passed true true e = (refl, refl)

-- a refusal of the keys is the call's, whatever else is lent
by_keys : (known sized rest : Bool) (buffer : Octets) (due : Returned Octets) (n : ℕ) → 0 < n → n ≡ number known sized
    → record { result = n; octets = buffer } ≡ cond (not known) (refused 1 buffer) (cond (not (sized && rest)) (refused 3 buffer) due)
by_keys false sized rest buffer due n h e = ap (λ (m : ℕ). refused m buffer) e
by_keys true false rest buffer due n h e = ap (λ (m : ℕ). refused m buffer) e
by_keys true true rest buffer due n h e = absurd (omega (arith, h, e))

by_more : (known sized more rest : Bool) (buffer : Octets) (due : Returned Octets) (n : ℕ) → 0 < n → n ≡ number known sized
    → record { result = n; octets = buffer }
    ≡ cond (not known) (refused 1 buffer) (cond (not (sized && more && rest)) (refused 3 buffer) due)
by_more false sized more rest buffer due n h e = ap (λ (m : ℕ). refused m buffer) e
by_more true false more rest buffer due n h e = ap (λ (m : ℕ). refused m buffer) e
by_more true true more rest buffer due n h e = absurd (omega (arith, h, e))

-- the number of the refusal that `?` hands over
pub handed : (r : Result ℕ Refusal) (e : Refusal) → IsErr r × IsErrAnd r (λ given. given ≡ e) → results.returned_of r ≡ number_of e
handed (Ok n) e h = absurd h.1
handed (Err given) e h = ap number_of h.1

module _ (edition set : ℕ) (k opc buffer : Octets) where
  abbrev known : Bool
  known = is_edition edition && is_set set

  valid_keys : 0 ≡ new_keys_refusal edition set k opc → (known ≡ true) × (are_keys k opc ≡ true)
  unfolding new_keys_refusal
  valid_keys e = passed known (are_keys k opc) e

  pub admitted : known ≡ true → sets.admits edition (keys_are set k opc) ≡ true
  unfolding sets
  admitted e = e

  pub usim_refused : (r : Result ℕ Refusal) (e : Refusal) → IsErr r × IsErrAnd r (λ given. given ≡ e)
      → number_of e ≡ new_keys_refusal edition set k opc
      → record { result = results.returned_of r; octets = buffer } ≡ new_usim_call edition set k opc buffer
  unfolding new_usim_call new_keys_refusal
  usim_refused r e h is =
      ap (λ (n : ℕ). refused n buffer) (handed r e h)
      ∙ by_keys known (are_keys k opc) _ buffer _ (number_of e) (some e) is

  pub usim_written : 0 ≡ new_keys_refusal edition set k opc → (n : ℕ) (new : Octets) (card : Usim)
      → card ≡ new_usim editions edition (keys_are set k opc)
      → record { refusal = n; image = new } ≡ usim.write_answer (usim.format editions sets) card buffer
      → record { result = n; octets = new } ≡ new_usim_call edition set k opc buffer
  unfolding new_usim_call usim.write_answer
  usim_written passed n new card made written =
      let keys = valid_keys passed in
      let due : Usim = new_usim editions edition (keys_are set k opc) in
      let valid : valid_usim editions sets due ≡ true = usim_holds.new_valid edition (keys_are set k opc) (admitted keys.0) in
      ap returned_of (written ∙ ap (λ (c : Usim). usim.write_answer (usim.format editions sets) c buffer) made)
      ∙ rw (valid, keys.0, keys.1) (by_size (eqb (length buffer) (usim.image_size (width_of editions edition))) buffer _)

  module _ (amf : Octets) where
    pub auc_refused : (r : Result ℕ Refusal) (e : Refusal) → IsErr r × IsErrAnd r (λ given. given ≡ e)
        → number_of e ≡ new_keys_refusal edition set k opc
        → record { result = results.returned_of r; octets = buffer } ≡ new_auc_call edition set k opc amf buffer
    unfolding new_auc_call new_keys_refusal
    auc_refused r e h is =
        ap (λ (n : ℕ). refused n buffer) (handed r e h)
        ∙ by_more known (are_keys k opc) (has amf_size amf) _ buffer _ (number_of e) (some e) is

    pub auc_amf : 0 ≡ new_keys_refusal edition set k opc → has amf_size amf ≡ false
        → record { result = 3; octets = buffer } ≡ new_auc_call edition set k opc amf buffer
    unfolding new_auc_call
    auc_amf passed other = let keys = valid_keys passed in rw (keys.0, keys.1, other)

    pub auc_written : 0 ≡ new_keys_refusal edition set k opc → has amf_size amf ≡ true → (n : ℕ) (new : Octets) (centre : Auc)
        → centre ≡ new_auc edition (keys_are set k opc) amf
        → record { refusal = n; image = new } ≡ auc.write_answer (auc.format editions sets) centre buffer
        → record { result = n; octets = new } ≡ new_auc_call edition set k opc amf buffer
    unfolding new_auc_call auc.write_answer
    auc_written passed two n new centre made written =
        let keys = valid_keys passed in
        let due : Auc = new_auc edition (keys_are set k opc) amf in
        let valid : valid_auc editions sets due ≡ true = auc_holds.new_valid edition (keys_are set k opc) amf (admitted keys.0) in
        ap returned_of (written ∙ ap (λ (a : Auc). auc.write_answer (auc.format editions sets) a buffer) made)
        ∙ rw (valid, keys.0, keys.1, two) (by_size (eqb (length buffer) auc.image_size) buffer _)
