-- The library's octets of a number are those of `encode`, and the number that it reads of octets is what they spell. Assumes nothing.
use Prim.Native.Nat.{ℕ, zero, suc, ◌/◌, ◌%◌, ◌^◌, ◌<◌}
use mathlib.Core.List.{◌∷◌}
use mathlib.Core.Path.{◌≡◌, refl, sym, ap, ◌∙◌}
use native.Mathlib.Omega.{arith}
use lib.ListN.{length, get_or}
use Rattle.std.specs.Int.{w32, w64, bytes_high_first, from_be_bytes}
use Rattle.std.proofs.lemmas.Nat.{be_bytes_4, be_bytes_8}
use Rattle.octets.specs.Octets.{Octets, encode, decode, digits}
use Rattle.octets.proofs.Numbers.{digits_cons, number_digits_fits}

pub encoded : (n x : ℕ) → bytes_high_first n x ≡ encode n x
unfolding digits
encoded zero x = refl
encoded (suc zero) x = refl
encoded (suc (suc n)) x =
    ap (λ (l : Octets). x / 256 ^ suc n % 256 ∷ l) (encoded (suc n) x) ∙ sym (digits_cons 256 (suc n) x)

module _ (x : Octets) (octet : (i : ℕ) → get_or x i 0 < 256) where
  pub read_4 : (n : ℕ) → length x ≡ 4 → n ≡ from_be_bytes w32 x → encode 4 n ≡ x
  read_4 n size e = sym (encoded 4 n) ∙ be_bytes_4 x n size octet e

  pub read_8 : (n : ℕ) → length x ≡ 8 → n ≡ from_be_bytes w64 x → n < 2 ^ 64 → n ≡ decode x
  read_8 n size e fits =
      sym (number_digits_fits 256 8 n (omega arith) fits) ∙ ap decode (sym (encoded 8 n) ∙ be_bytes_8 x n size octet e)
