-- What is read from a line and written for it. Assumes nothing.
use Prim.Native.Nat.{ℕ, ◌+◌, ◌-◌, ◌*◌, ◌≤◌, ◌<◌}
use mathlib.Core.Bool.{Bool, true, false, ◌&&◌, and-eq-true_iff, and-false}
use mathlib.Core.List.{List, [], ◌∷◌, ◌++◌, append_assoc}
use mathlib.Core.Path.{◌≡◌, refl, sym, ap, ap₂, ◌∙◌}
use native.Mathlib.Numerals.{add-one}
use native.Mathlib.Omega.{arith}
use borrow.Author.Tests.{eq-eqb, le-leb, lt-leb, ne_eqb}
use borrow.Rule.Slice.PartMut.{put_mid, Post-is}
use lib.ListN.{drop, get_or, length, length-append, length-drop, set, take}
use lib.Seq.{length-take-le, take_at, take-suc-set}
use Rattle.std.proofs.Math.Bool.{and_assoc}
use Rattle.octets.specs.Ascii.{ascii}
use Rattle.octets.specs.Octets.{Octets, zeros}
use Rattle.hex_digits.specs.Hex.{has_room, hex, written_into}
use Rattle.fields.specs.Fields.{is_hex_field, octets_in, read_field_into}
use Rattle.hex_digits.proofs.HexLaws.{length_hex}
use Rattle.aka.specs.Functions.{Functions, Keys}
use Rattle.functions.specs.Sets.{is_set, sets}
use Rattle.function_vectors.specs.declared.Challenge.{Challenge}
use Rattle.function_vectors.specs.declared.Outputs.{Outputs}
use Rattle.function_vectors.specs.Challenge.{challenge_on}
use Rattle.function_vectors.specs.Outputs.{Answers}
use Rattle.aka.specs.Layout.{key_size, rand_size, sqn_size, amf_size}
use Rattle.function_vectors.specs.Answer.{amf_at, answer_text, challenge_formed, k_at, keys_formed, keys_on, line_size, opc_at}
use Rattle.function_vectors.specs.Answer.{outputs_of, outputs_text, rand_at, sqn_at, well_formed}

-- octets in hex and a byte behind them, put into a text
pub put_hex : (text octets : List ℕ) (used end : ℕ) {part : List ℕ} → used + 2 * length octets + 1 ≤ length text → part ≡ hex octets
    → take (used + 2 * length octets + 1) (set (put_mid used (used + 2 * length octets - used) text part) (used + 2 * length octets) end)
    ≡ take used text ++ (hex octets ++ (end ∷ []))
put_hex text octets used end {part} fits is =
    let last = used + 2 * length octets in
    let done = take used text ++ hex octets in
    let size : length done ≡ last =
    length-append (take used text) (hex octets) ∙ omega (arith, length-take-le used text (omega arith), length_hex octets) in
    let whole : put_mid used (last - used) text part ≡ done ++ drop last text =
    rw (is, Post-is used last text (omega arith)) (sym (append_assoc (take used text) (hex octets) (drop last text))) in
    let inside : last + 1 ≤ length (done ++ drop last text) =
    rw (length-append done (drop last text)) (omega (arith, size, length-drop last text)) in
    rw (whole, add-one last)
    (take-suc-set (done ++ drop last text) last end (omega arith)
    ∙ ap (λ (l : List ℕ). l ++ (end ∷ [])) (take_at done (drop last text) last size)
    ∙ append_assoc (take used text) (hex octets) (end ∷ []))

-- octets written to a part that has room
pub written : (part octets : List ℕ) → length part ≡ 2 * length octets → written_into part octets ≡ hex octets
unfolding written_into has_room
written part octets e = rw (eq-eqb _ _ e)

-- octets read from a field that is there
pub field : (old line : List ℕ) (at : ℕ) {size : ℕ} → length old ≡ size → is_hex_field size at line ≡ true
    → read_field_into old at line ≡ octets_in size at line
unfolding read_field_into
field old line at l e = rw (l, e)

-- ---- the form of a line

-- what the code says of the character of the set and of the fields of K and OPC is whether the keys are well formed
pub low_set : (line : List ℕ) → get_or line 0 0 < 48 → keys_formed line ≡ false
unfolding keys_formed
low_set line h = rw (lt-leb 48 _ h)

pub high_set : (line : List ℕ) → 57 < get_or line 0 0 → keys_formed line ≡ false
unfolding keys_formed
high_set line h = simp (lt-leb _ 57 h, and-false)

module _ (line : List ℕ) {k opc : Bool} (low : 48 ≤ get_or line 0 0) (high : get_or line 0 0 ≤ 57)
    (is-k : k ≡ is_hex_field key_size k_at line) (is-opc : opc ≡ is_hex_field key_size opc_at line) where
  pub keys_said : {b : Bool} → k && opc ≡ b → keys_formed line ≡ b
  unfolding keys_formed
  keys_said e = rw (le-leb 48 _ low, le-leb _ 57 high, ← is-k, ← is-opc) e

  -- and what it read from a line whose keys are
  pub keys_read : k && opc ≡ true → {at-k at-opc : Octets} → at-k ≡ read_field_into (zeros key_size) k_at line
      → at-opc ≡ read_field_into (zeros key_size) opc_at line
      → record { set = get_or line 0 0 - 48; k = at-k; opc = at-opc } ≡ keys_on line
  unfolding keys_on
  keys_read e read-k read-opc =
      let there = (and-eq-true_iff k opc).0 e in
      ap₂ (λ (x y : Octets). record { set = get_or line 0 0 - 48; k = x; opc = y })
      (read-k ∙ field (zeros key_size) line k_at refl (sym is-k ∙ there.0))
      (read-opc ∙ field (zeros key_size) line opc_at refl (sym is-opc ∙ there.1))

pub ruleset keys_forms = (low_set, high_set, keys_said, keys_read)

-- and of the fields of the challenge
module _ (line : List ℕ) {rand sqn amf : Bool} (is-rand : rand ≡ is_hex_field rand_size rand_at line)
    (is-sqn : sqn ≡ is_hex_field sqn_size sqn_at line) (is-amf : amf ≡ is_hex_field amf_size amf_at line) where
  pub challenge_said : {b : Bool} → rand && sqn && amf ≡ b → challenge_formed line ≡ b
  unfolding challenge_formed
  challenge_said e = rw (← is-rand, ← is-sqn, ← is-amf, ← and_assoc rand sqn amf) e

  -- and what it read from a line whose challenge is
  pub challenge_read : rand && sqn && amf ≡ true → {at-rand at-sqn at-amf : Octets}
      → at-rand ≡ read_field_into (zeros rand_size) rand_at line → at-sqn ≡ read_field_into (zeros sqn_size) sqn_at line
      → at-amf ≡ read_field_into (zeros amf_size) amf_at line
      → record { rand = at-rand; sqn = at-sqn; amf = at-amf } ≡ challenge_on line
  unfolding challenge_on
  challenge_read e read-rand read-sqn read-amf =
      let both = (and-eq-true_iff (rand && sqn) amf).0 e in
      let first = (and-eq-true_iff rand sqn).0 both.0 in
      rw (
        read-rand ∙ field (zeros rand_size) line rand_at refl (sym is-rand ∙ first.0),
        read-sqn ∙ field (zeros sqn_size) line sqn_at refl (sym is-sqn ∙ first.1),
        read-amf ∙ field (zeros amf_size) line amf_at refl (sym is-amf ∙ both.1),
      )

pub ruleset challenge_forms = (challenge_said, challenge_read)

-- the line's form is that of its length, its keys and its challenge
module _ (line : List ℕ) where
  pub other_length : (length line ≡ line_size → ⊥) → well_formed line ≡ false
  unfolding well_formed
  other_length h = rw (ne_eqb _ _ h)

  pub no_keys : keys_formed line ≡ false → well_formed line ≡ false
  unfolding well_formed
  no_keys e = simp (e, and-false)

  pub no_challenge : challenge_formed line ≡ false → well_formed line ≡ false
  unfolding well_formed
  no_challenge e = simp (e, and-false)

  pub formed : length line ≡ line_size → keys_formed line ≡ true → challenge_formed line ≡ true → well_formed line ≡ true
  unfolding well_formed
  formed size keys challenge = rw (eq-eqb _ _ size, keys, challenge)

pub ruleset forms = (other_length, no_keys, no_challenge, formed)

-- ---- the answer, in its three ways

-- the text of outputs that are those of a subscriber's functions
text_of_lem : (F : Functions) (rand sqn amf : Octets) (o : Outputs) → Answers F rand sqn amf o
    → outputs_text o.mac o.macs o.res o.ck o.ik o.ak o.aks ≡ outputs_of F rand sqn amf
unfolding outputs_of
text_of_lem F rand sqn amf o a = rw (a.mac, a.macs, a.res, a.ck, a.ik, a.ak, a.aks)

pub not_formed : (line : List ℕ) {text : List ℕ} → well_formed line ≡ false → text ≡ ascii "bad line\n" → text ≡ answer_text line
unfolding answer_text
not_formed line e is = rw e is

-- a line that is well formed, and the keys on it
module _ (line : List ℕ) {keys : Keys} (form : well_formed line ≡ true) (on : keys ≡ keys_on line) where
  pub not_known : {text : List ℕ} → is_set keys.set ≡ false → text ≡ ascii "refused 1\n" → text ≡ answer_text line
  unfolding answer_text
  not_known unknown is = rw (form, ← on, unknown) is

  pub outputs : (c : Challenge) (o : Outputs) {text : List ℕ} → c ≡ challenge_on line → is_set keys.set ≡ true
      → Answers (sets.under keys) c.rand c.sqn c.amf o → text ≡ outputs_text o.mac o.macs o.res o.ck o.ik o.ak o.aks
      → text ≡ answer_text line
  unfolding answer_text outputs_of challenge_on
  outputs c o there known a is =
      rw (form, ← on, known)
      (is
      ∙ text_of_lem (sets.under keys) c.rand c.sqn c.amf o a
      ∙ ap (λ (x : Challenge). outputs_of (sets.under keys) x.rand x.sqn x.amf) there)
