-- A column of a round by the table. Assumes nothing.
use Prim.Native.Nat.{ℕ}
use mathlib.Core.Path.{◌≡◌, ap, ap₂, ◌∙◌}
use lib.Bits.{bit_xor}
use Rattle.octets.specs.Octets.{Octets, xor, turn_left, encode}
use Rattle.octets.proofs.Numbers.{digits_xor}
use Rattle.aes_tables.specs.RoundTable.{contribution}
use Rattle.aes.specs.Cipher.{mix_column}

-- the words that the table gives for four octets, turned to their rows and added
module _ (s0 s1 s2 s3 p q r s q' r' s' k : ℕ)
    (ep : encode 4 p ≡ contribution s0) (eq : encode 4 q ≡ contribution s1)
    (er : encode 4 r ≡ contribution s2) (es : encode 4 s ≡ contribution s3)
    (hq : encode 4 q' ≡ turn_left 3 (encode 4 q)) (hr : encode 4 r' ≡ turn_left 2 (encode 4 r))
    (hs : encode 4 s' ≡ turn_left 1 (encode 4 s)) where
  sum : encode 4 (bit_xor (bit_xor (bit_xor p q') r') s') ≡ mix_column s0 s1 s2 s3
  unfolding xor turn_left contribution mix_column
  sum =
      digits_xor 8 4 (bit_xor (bit_xor p q') r') s'
      ∙ ap₂ xor
      (digits_xor 8 4 (bit_xor p q') r'
      ∙ ap₂ xor (digits_xor 8 4 p q' ∙ ap₂ xor ep (hq ∙ ap (turn_left 3) eq)) (hr ∙ ap (turn_left 2) er))
      (hs ∙ ap (turn_left 1) es)

  pub mixed : encode 4 (bit_xor (bit_xor (bit_xor (bit_xor p q') r') s') k) ≡ xor (mix_column s0 s1 s2 s3) (encode 4 k)
  mixed = digits_xor 8 4 (bit_xor (bit_xor (bit_xor p q') r') s') k ∙ ap (λ (x : Octets). xor x (encode 4 k)) sum
