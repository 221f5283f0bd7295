-- The key expansion's words. Assumes nothing.
use Prim.Native.Nat.{ℕ, suc, ◌+◌, ◌-◌, ◌*◌, ◌/◌, ◌%◌, ◌≤◌, ◌<◌, ◌^◌}
use mathlib.Core.List.{List, [], ◌∷◌, ◌++◌}
use mathlib.Core.Path.{◌≡◌, refl, sym, ap, ap₂, ◌∙◌}
use native.Mathlib.Numerals.{add-one}
use native.Mathlib.Omega.{arith}
use borrow.Author.Tests.{eq-eqb, ne_eqb}
use lib.Bits.{bit_xor}
use lib.ListN.{length, get_or, take, set, length-set}
use lib.Seq.{get_or-take, get_or-set_same, get_or-set_other, lt-length-set, take-suc-set}
use Rattle.octets.specs.Octets.{Octets, digits, encode, decode}
use Rattle.gf256.specs.Field.{xtime, xtimes}
use Rattle.gf256.proofs.Laws.{doubled_last}
use Rattle.octets.proofs.Numbers.{number_digits_fits}
use Rattle.aes_words.specs.Words.{columns}
use Rattle.aes_schedule.specs.KeyExpansion.{rot_word, sub_word, rcon_octet, rcon, temp, next_word, key_words, expanded}

-- a word of known octets
pub whole : (r : ℕ) (l : Octets) → r < 2 ^ 32 → encode 4 r ≡ l → r ≡ decode l
whole r l h e = sym (number_digits_fits 256 4 r (omega arith) h) ∙ ap decode e

pub key_words_lem : (a b c d : ℕ) → a < 2 ^ 32 → b < 2 ^ 32 → c < 2 ^ 32 → d < 2 ^ 32 → a ∷ b ∷ c ∷ d ∷ [] ≡ key_words (columns a b c d)
unfolding digits key_words
key_words_lem a b c d ha hb hc hd =
    ap₂ ◌∷◌ (whole a _ ha refl) (ap₂ ◌∷◌ (whole b _ hb refl) (ap₂ ◌∷◌ (whole c _ hc refl) (ap₂ ◌∷◌ (whole d _ hd refl) refl)))

-- ---- Rcon, by its first octet

-- the next is its double
pub rcon_doubled : (j : ℕ) {rc r : ℕ} → 1 ≤ j → rc ≡ rcon_octet j → r ≡ xtime rc → r ≡ rcon_octet (j + 1)
unfolding rcon_octet xtimes
rcon_doubled j h e f =
    let more : j + 1 - 1 ≡ suc (j - 1) = omega arith in
    f ∙ ap xtime e ∙ sym (doubled_last (j - 1) 1) ∙ rw more

-- ---- words

-- the words before place i are all that the word there depends on
front : (w : List ℕ) (i : ℕ) → 4 ≤ i → next_word (take i w) i ≡ next_word w i
unfolding next_word
front w i h =
    let four : i - 4 < i = omega arith in
    let one : i - 1 < i = omega arith in
    rw (get_or-take i w (i - 4) 0 four, get_or-take i w (i - 1) 0 one)

next_word_lem : (first w : List ℕ) (i x : ℕ) → 4 ≤ i → i < length w → take i w ≡ expanded first (i - 4) → x ≡ next_word w i
    → take (i + 1) (set w i x) ≡ expanded first (i + 1 - 4)
unfolding expanded
next_word_lem first w i x g h e f =
    let more : i + 1 - 4 ≡ suc (i - 4) = omega arith in
    let place : i - 4 + 4 ≡ i = omega arith in
    rw (more, add-one i, take-suc-set w i x h)
    (ap₂ (λ (l : List ℕ) (y : ℕ). l ++ (y ∷ [])) e (f ∙ sym (front w i g) ∙ ap₂ next_word e (sym place)))

-- a word that takes Rcon
pub rcon_word : (w : List ℕ) (j : ℕ) {x rc : ℕ} → rc ≡ rcon_octet j
    → x ≡ bit_xor (get_or w (4 * j - 4) 0) (bit_xor (sub_word (rot_word (get_or w (4 * j - 1) 0))) (decode (rc ∷ 0 ∷ 0 ∷ 0 ∷ [])))
    → x ≡ next_word w (4 * j)
unfolding next_word temp rcon
rcon_word w j e f =
    let turn : 4 * j % 4 ≡ 0 = omega arith in
    let round : 4 * j / 4 ≡ j = omega arith in
    f ∙ rw (eq-eqb (4 * j % 4) 0 turn, round, e)

-- a word that takes none, behind one just written
plain_word : (w : List ℕ) (i : ℕ) → (i % 4 ≡ 0 → ⊥) → next_word w i ≡ bit_xor (get_or w (i - 4) 0) (get_or w (i - 1) 0)
unfolding next_word temp
plain_word w i n = rw (ne_eqb (i % 4) 0 n)

behind : (first w : List ℕ) (i j x y : ℕ) → j ≡ i + 1 → 4 ≤ i → j < length w → (j % 4 ≡ 0 → ⊥)
    → take (i + 1) (set w i x) ≡ expanded first (i + 1 - 4) → y ≡ bit_xor (get_or w (j - 4) 0) x
    → take (j + 1) (set (set w i x) j y) ≡ expanded first (j + 1 - 4)
behind first w i j x y at h fits n e f =
    let back = get_or-set_other w i (j - 4) x 0 (λ q. omega arith) in
    let place : j - 1 ≡ i = omega arith in
    let last = ap (λ (k : ℕ). get_or (set w i x) k 0) place ∙ get_or-set_same w i x 0 (omega arith) in
    next_word_lem first (set w i x) j y (omega arith) (lt-length-set w i x fits) (rw at e)
    (f ∙ sym (plain_word (set w i x) j n ∙ ap₂ bit_xor back last))

-- what stands before a store
kept : (l : List ℕ) (j x k : ℕ) → k < j → get_or l k 0 ≡ get_or (set l j x) k 0
kept l j x k h = sym (get_or-set_other l j k x 0 (λ e. omega arith))

-- four words, the first with Rcon
module _ (first w : List ℕ) (round a b c d : ℕ) where
  abbrev i : ℕ
  i = 4 * round

  abbrev w₁ : List ℕ
  w₁ = set w i a

  abbrev w₂ : List ℕ
  w₂ = set w₁ (i + 1) b

  pub next_words : 1 ≤ round → i + 3 < length w → take i w ≡ expanded first (i - 4)
      → a ≡ next_word w i → b ≡ bit_xor (get_or w (i - 3) 0) a → c ≡ bit_xor (get_or w (i - 2) 0) b → d ≡ bit_xor (get_or w (i - 1) 0) c
      → take (4 * (round + 1)) (set (set w₂ (i + 2) c) (i + 3) d) ≡ expanded first (4 * (round + 1) - 4)
  next_words h fits done ea eb ec ed =
      let size₁ : length w₁ ≡ length w = length-set w i a in
      let size₂ : length w₂ ≡ length w = length-set w₁ (i + 1) b ∙ size₁ in
      let three_back : i - 3 ≡ i + 1 - 4 = omega arith in
      let two_back : i - 2 ≡ i + 2 - 4 = omega arith in
      let one_back : i - 1 ≡ i + 3 - 4 = omega arith in
      let at_b : b ≡ bit_xor (get_or w (i + 1 - 4) 0) a = rw three_back at eb in
      let at_c : c ≡ bit_xor (get_or w₁ (i + 2 - 4) 0) b =
      rw two_back at ec ∙ ap (λ (y : ℕ). bit_xor y b) (kept w i a (i + 2 - 4) (omega arith)) in
      let at_d : d ≡ bit_xor (get_or w₂ (i + 3 - 4) 0) c =
      rw one_back at ed
      ∙ ap (λ (y : ℕ). bit_xor y c) (kept w i a (i + 3 - 4) (omega arith) ∙ kept w₁ (i + 1) b (i + 3 - 4) (omega arith)) in
      let one = next_word_lem first w i a (omega arith) (omega arith) done ea in
      let two = behind first w i (i + 1) a b refl (omega arith) (omega arith) (λ q. omega arith) one at_b in
      let three = behind first w₁ (i + 1) (i + 2) b c (omega arith) (omega arith) (omega arith) (λ q. omega arith) two at_c in
      let four = behind first w₂ (i + 2) (i + 3) c d (omega arith) (omega arith) (omega arith) (λ q. omega arith) three at_d in
      let end : 4 * (round + 1) ≡ i + 3 + 1 = omega arith in
      rw end four
