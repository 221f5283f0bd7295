-- A block by its columns. Assumes nothing.
use Prim.Native.Nat.{ℕ}
use mathlib.Core.List.{[], ◌++◌, append-nil}
use mathlib.Core.Path.{◌≡◌, ap, ap₂, ◌∙◌}
use lib.Bits.{bit_xor}
use lib.ListN.{length}
use Rattle.octets.specs.Octets.{Octets, part, xor, digits, encode}
use Rattle.octets.proofs.Parts.{meet, whole}
use Rattle.octets.proofs.Numbers.{digits_xor}
use Rattle.aes_words.specs.Words.{columns}

-- a block whose columns are known
pub joined : (a b c d : ℕ) {p q r s : Octets} → encode 4 a ≡ p → encode 4 b ≡ q → encode 4 c ≡ r → encode 4 d ≡ s
    → columns a b c d ≡ p ++ (q ++ (r ++ s))
joined a b c d ep eq er es = ap₂ ◌++◌ ep (ap₂ ◌++◌ eq (ap₂ ◌++◌ er es))

-- the same, as the library lays four words out
pub flattened : (a b c d : ℕ) {p q r s : Octets} → p ≡ encode 4 a → q ≡ encode 4 b → r ≡ encode 4 c → s ≡ encode 4 d
    → p ++ (q ++ (r ++ (s ++ []))) ≡ columns a b c d
flattened a b c d {s = s} ep eq er es = ap₂ ◌++◌ ep (ap₂ ◌++◌ eq (ap₂ ◌++◌ er (append-nil s ∙ es)))

-- 16 octets by four
pub quarters : (x : Octets) → length x ≡ 16 → part 0 4 x ++ (part 4 4 x ++ (part 8 4 x ++ part 12 4 x)) ≡ x
quarters x size =
    ap (λ (l : Octets). part 0 4 x ++ (part 4 4 x ++ l)) (meet 8 4 4 x)
    ∙ ap (λ (l : Octets). part 0 4 x ++ l) (meet 4 4 8 x)
    ∙ meet 0 4 12 x
    ∙ whole x 16 size

-- two blocks, word by word
pub xor_columns : (a b c d e f g h : ℕ)
    → columns (bit_xor a e) (bit_xor b f) (bit_xor c g) (bit_xor d h) ≡ xor (columns a b c d) (columns e f g h)
unfolding digits xor
xor_columns a b c d e f g h =
    joined (bit_xor a e) (bit_xor b f) (bit_xor c g) (bit_xor d h)
    (digits_xor 8 4 a e) (digits_xor 8 4 b f) (digits_xor 8 4 c g) (digits_xor 8 4 d h)
