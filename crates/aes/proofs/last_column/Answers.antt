-- `last_column` is a column of SubBytes, ShiftRows and AddRoundKey. Assumes nothing.
use Rattle.std.proofs.Common.{ℕ, ◌%◌, ◌∷◌, ◌≡◌, refl, ap, ap₂, ◌∙◌, get_or}
use Rattle.octets.specs.Octets.{Octets, digits, xor, encode}
use Rattle.octets.proofs.Numbers.{digits_xor}
use Rattle.aes_tables.specs.Sbox.{sbox}
use Rattle.aes_tables.specs.RoundTable.{contribution}
use Rattle.aes_words.specs.Words.{octet}
use Rattle.aes_words.proofs.Turns.{shifted2, shifted3}
use Rattle.aes.proofs.last_column.Goals as goal

-- the second octet of a word of the table is the S-box's value
value : (x y s v : ℕ) → encode 4 y ≡ contribution (sbox x) → x ≡ s → v ≡ octet 1 y → v ≡ sbox s
unfolding contribution
value x y s v e g h = h ∙ ap (λ (l : Octets). get_or l 1 0) e ∙ ap sbox g

pub returns : goal.returns
unfolding digits
returns c =
    let args = c.args in
    let row0 = value _ _ _ _ c.entry.ensures (ap (λ (y : ℕ). y % 256) (shifted3 args.a)) c.second.ensures in
    let row1 = value _ _ _ _ c.entry-2.ensures (ap (λ (y : ℕ). y % 256) (shifted2 args.b)) c.second-2.ensures in
    let row2 = value _ _ _ _ c.entry-3.ensures refl c.second-3.ensures in
    let row3 = value _ _ _ _ c.entry-4.ensures refl c.second-4.ensures in
    digits_xor 8 4 c.word.result args.k
    ∙ ap (λ (x : Octets). xor x (encode 4 args.k))
    (c.word.ensures ∙ ap₂ ◌∷◌ row0 (ap₂ ◌∷◌ row1 (ap₂ ◌∷◌ row2 (ap₂ ◌∷◌ row3 refl))))
