-- The AUTS of a valid USIM, as the AuC reads it. Assumes nothing.
use Prim.Native.Nat.{ℕ, ◌≤◌}
use mathlib.Core.Bool.{true}
use mathlib.Core.Path.{◌≡◌, refl, ◌∙◌}
use lib.ListN.{length}
use Rattle.octets.specs.Octets.{Octets, encode}
use Rattle.aka.specs.Layout.{rand_size, sqn_size, auts_size}
use Rattle.aka.specs.Functions.{Functions, Family, Lengths, dummy_amf}
use Rattle.aka.specs.Sequence.{Scheme, Fitting, width_of, indices, limit}
use Rattle.aka.specs.Usim.{Usim, UsimShaped, valid_usim, seq_ms, sqn_ms, make_auts}
use Rattle.aka.specs.Auc.{mac_s_right, seq_ms_in}
use Rattle.aka.proofs.Places.{within, sqn_ms_lem, sqn_ms_fits}
use Rattle.aka.proofs.Tokens.{length_sqn, auts_length, auts_mac, auts_seq}
use Rattle.aka.proofs.Verdicts.{valid_parts}

module _ (scheme : Scheme) (fits : Fitting scheme) (family : Family) (usim : Usim) (L : Lengths (family.under usim.keys))
    (valid : valid_usim scheme family usim ≡ true) (shaped : UsimShaped scheme usim) (rand : Octets) (hr : length rand ≡ rand_size) where
  abbrev w : ℕ
  w = width_of scheme usim.edition

  abbrev G : Functions
  G = family.under usim.keys

  abbrev pub auts_of : Octets
  auts_of = make_auts G (encode sqn_size (sqn_ms w usim)) dummy_amf rand

  pub auts_is_long : length auts_of ≡ auts_size
  auts_is_long = auts_length G L (encode sqn_size (sqn_ms w usim)) dummy_amf rand (length_sqn (sqn_ms w usim)) refl hr

  pub auts_is_right : mac_s_right G rand auts_of ≡ true
  auts_is_right = auts_mac G L (encode sqn_size (sqn_ms w usim)) dummy_amf rand (length_sqn (sqn_ms w usim)) refl hr refl

  pub auts_has : seq_ms_in w G rand auts_of ≡ seq_ms usim
  auts_has =
      let parts = valid_parts scheme family usim valid in
      let small : seq_ms usim ≤ limit w = within (limit w) usim.places parts.1 in
      let long : indices w ≤ length usim.places = rw shaped.places (fits.places usim.edition) in
      auts_seq w G L (sqn_ms w usim) (sqn_ms_fits w (fits.width usim.edition) usim long parts.2 small) dummy_amf rand refl hr
      ∙ (sqn_ms_lem w usim long parts.2).seq
