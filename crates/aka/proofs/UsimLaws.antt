-- The laws of the USIM's answer, proved. Assumes nothing.
use Prim.Native.Nat.{ℕ, zero, suc, ◌^◌, ◌≤◌, ◌<◌}
use mathlib.Core.Bool.{Bool, true, false, not, cond}
use mathlib.Core.List.{List}
use mathlib.Core.Logic.{◌↔◌}
use mathlib.Core.Path.{◌≡◌, refl, sym, ap, ◌∙◌, subst}
use native.Mathlib.Omega.{arith}
use lib.ListN.{length, get_or, replicate, set, length-set}
use lib.Seq.{get_or-set_same, get_or-set_other}
use Rattle.octets.specs.Octets.{part, Octets, Below, zeros, decode}
use Rattle.octets.proofs.Absurd.{zero_not_one}
use Rattle.octets.proofs.Numbers.{number_lt}
use Rattle.octets.proofs.Parts.{length_part}
use Rattle.octets.proofs.Ranges.{below_part, below_xor}
use Rattle.octets.proofs.XorLaws.{length_xor}
use Rattle.aka.specs.Layout.{rand_size, autn_size, sqn_size, auts_size, read_autn, write_auts}
use Rattle.aka.specs.Functions.{Keys, Functions, Family, Shaped, Lawful}
use Rattle.aka.specs.Sequence.{Scheme, Fitting, width_of, FitsSqn, indices, limit}
use Rattle.aka.specs.Usim.{Usim, UsimShaped, UsimAnswer, new_usim, highest, seq_ms, sqn_ms, challenge, unchanged, verdict_on}
use Rattle.aka.specs.Usim.{judgement, answer_with, Verdict, accepted, mac_failure, sync_failure, refused, refusal_of}
use Rattle.aka.specs.Usim.{valid_usim, all_within, lengths_right, sqn_in, seq_in, ind_in, mac_right, fresh, make_auts}
use Rattle.aka.specs.UsimLaws.{auts_of, LengthsNamed, Unrefused, Fresh, Acceptable, OnePlace, UsimLaws, LowestIndex, SameAnswer}
use Rattle.aka.specs.UsimLaws.{UsimPromise}
use Rattle.aka.proofs.Held.{zero_from}
use Rattle.aka.proofs.Places.{within_iff, sqn_ms_lem}
use Rattle.aka.proofs.Verdicts as known

-- ---- one challenge

module _ (scheme : Scheme) (family : Family) (usim : Usim) (rand autn : Octets) where
  abbrev w : ℕ
  w = width_of scheme usim.edition

  abbrev F : Functions
  F = family.under usim.keys

  abbrev answer : UsimAnswer
  answer = challenge scheme family usim rand autn

  abbrev test : Bool
  test = fresh usim.places (seq_in w F rand autn) (ind_in w F rand autn)

  abbrev verdict : Verdict
  verdict = verdict_on scheme family usim rand autn

  is : answer.verdict ≡ verdict
  is = known.verdict_is scheme family usim rand autn

  lengths : Unrefused scheme family usim rand autn → lengths_right rand autn ≡ true
  lengths a = known.lengths_right_lem rand autn a.lengths.rand_size_lem a.lengths.autn_size_lem

  named : lengths_right rand autn ≡ true → LengthsNamed scheme family usim rand autn
  named e = let both = known.lengths_known rand autn e in record { rand_size_lem = both.0; autn_size_lem = both.1 }

  -- another length fails the test
  not_named : (LengthsNamed scheme family usim rand autn → ⊥) → lengths_right rand autn ≡ false
  not_named h = go (lengths_right rand autn) refl
    where
      go : (b : Bool) → lengths_right rand autn ≡ b → b ≡ false
      go true e = absurd (h (named e))
      go false e = refl

  no_number : (mac new : Bool) (number : ℕ) → cond (not mac) mac_failure (cond (not new) sync_failure accepted) ≡ refused number → ⊥
  no_number true true number e = zero_not_one (cc)
  no_number true false number e = zero_not_one (cc)
  no_number false new number e = zero_not_one (cc)

  not_refused : Unrefused scheme family usim rand autn → (number : ℕ) → answer.verdict ≡ refused number → ⊥
  unfolding judgement
  not_refused a number e =
      no_number (mac_right F rand autn) test number (sym (known.judged scheme family usim rand autn a.valid (lengths a)) ∙ e)

  -- a verdict that is no refusal has the number 0
  none : (v : Verdict) → ((number : ℕ) → v ≡ refused number → ⊥) → refusal_of v ≡ 0
  none accepted h = refl
  none mac_failure h = refl
  none sync_failure h = refl
  none (refused number) h = absurd (h number refl)

  fresh_iff : (test ≡ true) ↔ Fresh scheme family usim rand autn
  fresh_iff = known.fresh_iff usim.places (seq_in w F rand autn) (ind_in w F rand autn)

  not_new : (Fresh scheme family usim rand autn → ⊥) → test ≡ false
  not_new h = go test refl
    where
      go : (b : Bool) → test ≡ b → b ≡ false
      go true e = absurd (h (fresh_iff.0 e))
      go false e = refl

  fresh_accepted : Acceptable scheme family usim rand autn → answer.verdict ≡ accepted
  fresh_accepted a =
      known.mac_right_lem scheme family usim rand autn a.unrefused.valid (lengths a.unrefused) a.mac ∙ rw (fresh_iff.1 a.fresh)

  accepted_fresh : answer.verdict ≡ accepted → Acceptable scheme family usim rand autn
  accepted_fresh e =
      let tests = known.accepted_tests scheme family usim rand autn e in
      record { unrefused = record { valid = tests.0; lengths = named tests.1 }; mac = tests.2; fresh = fresh_iff.0 tests.3 }

  is_accepted : answer.verdict ≡ accepted → answer ≡ answer_with scheme family usim rand autn accepted
  is_accepted e = known.answer_of_lem scheme family usim rand autn accepted e

  one_place : answer.verdict ≡ accepted → OnePlace scheme family usim rand autn
  unfolding answer_with
  one_place e =
      let a = is_accepted e in
      let s = seq_in w F rand autn in
      let i = ind_in w F rand autn in
      let places : answer.usim.places ≡ set usim.places i s = ap (λ (x : UsimAnswer). x.usim.places) a in
      record {
        edition = ap (λ (x : UsimAnswer). x.usim.edition) a;
        keys = ap (λ (x : UsimAnswer). x.usim.keys) a;
        size = ap length places ∙ length-set usim.places i s;
        place = λ h. ap (λ (l : List ℕ). get_or l i 0) places ∙ get_or-set_same usim.places i s 0 h;
        others = λ j h. ap (λ (l : List ℕ). get_or l j 0) places ∙ get_or-set_other usim.places i j s 0 h;
      }

  unchanged_with : (v : Verdict) → (v ≡ accepted → ⊥)
      → answer_with scheme family usim rand autn v ≡ unchanged v usim (answer_with scheme family usim rand autn v).auts
  unfolding answer_with
  unchanged_with accepted h = absurd (h refl)
  unchanged_with mac_failure h = refl
  unchanged_with sync_failure h = refl
  unchanged_with (refused number) h = refl

  no_auts_with : (v : Verdict) → (v ≡ sync_failure → ⊥) → (answer_with scheme family usim rand autn v).auts ≡ zeros auts_size
  unfolding answer_with
  no_auts_with accepted h = refl
  no_auts_with mac_failure h = refl
  no_auts_with sync_failure h = absurd (h refl)
  no_auts_with (refused number) h = refl

  auts_is : answer.verdict ≡ sync_failure → answer.auts ≡ auts_of F (sqn_ms w usim) rand
  unfolding make_auts write_auts
  auts_is e = ap (λ (x : UsimAnswer). x.auts) (known.sync_answer scheme family usim rand autn e)

  laws : UsimLaws scheme family usim rand autn
  unfolding answer_with challenge
  laws = record {
    refusal1 = known.refused_1 scheme family usim rand autn;
    refusal3 = λ valid bad. known.refused_3 scheme family usim rand autn valid (not_named bad);
    not_refused = not_refused;
    number1 = λ bad. ap refusal_of (known.refused_1 scheme family usim rand autn bad);
    number3 = λ valid bad. ap refusal_of (known.refused_3 scheme family usim rand autn valid (not_named bad));
    number0 = λ a. none answer.verdict (not_refused a);
    mac_wrong = λ a wrong. known.mac_wrong scheme family usim rand autn a.valid (lengths a) wrong;
    not_fresh = λ a right h. known.mac_right_lem scheme family usim rand autn a.valid (lengths a) right ∙ rw (not_new h);
    auts = auts_is;
    fresh_accepted = fresh_accepted;
    accepted_fresh = accepted_fresh;
    stored = one_place;
    res = λ e. ap (λ (x : UsimAnswer). x.res) (is_accepted e);
    ck = λ e. ap (λ (x : UsimAnswer). x.ck) (is_accepted e);
    ik = λ e. ap (λ (x : UsimAnswer). x.ik) (is_accepted e);
    not_accepted = λ h. unchanged_with verdict (λ e. h (is ∙ e)) ∙ ap (λ (v : Verdict). unchanged v usim answer.auts) (sym is);
    no_auts = λ h. no_auts_with verdict (λ e. h (is ∙ e));
  }

-- ---- two USIMs

module _ (scheme : Scheme) (family : Family) (usim usim' : Usim) (rand autn : Octets)
    (v : valid_usim scheme family usim ≡ true) (v' : valid_usim scheme family usim' ≡ true)
    (same : usim.keys ≡ usim'.keys) (wrong : mac_right (family.under usim.keys) rand autn ≡ false) where
  -- the verdict does not look at the places
  blind : Bool → Verdict
  blind right = cond (not right) (refused 3) mac_failure

  module _ (u : Usim) (valid : valid_usim scheme family u ≡ true) (not_right : mac_right (family.under u.keys) rand autn ≡ false) where
    verdict_blind : (challenge scheme family u rand autn).verdict ≡ blind (lengths_right rand autn)
    unfolding verdict_on judgement blind
    verdict_blind = known.verdict_is scheme family u rand autn ∙ rw (valid, not_right)

    blind_auts : (right : Bool) → answer_with scheme family u rand autn (blind right) ≡ unchanged (blind right) u (zeros auts_size)
    unfolding answer_with blind
    blind_auts true = refl
    blind_auts false = refl

    answer_blind : challenge scheme family u rand autn ≡ unchanged (blind (lengths_right rand autn)) u (zeros auts_size)
    answer_blind = known.answer_of_lem scheme family u rand autn _ verdict_blind ∙ blind_auts (lengths_right rand autn)

  alike : SameAnswer (challenge scheme family usim rand autn) (challenge scheme family usim' rand autn)
  alike =
      let a = answer_blind usim v wrong in
      let b = answer_blind usim' v' (rw (← same) wrong) in
      record {
        verdict = ap (λ (x : UsimAnswer). x.verdict) a ∙ sym (ap (λ (x : UsimAnswer). x.verdict) b);
        res = ap (λ (x : UsimAnswer). x.res) a ∙ sym (ap (λ (x : UsimAnswer). x.res) b);
        ck = ap (λ (x : UsimAnswer). x.ck) a ∙ sym (ap (λ (x : UsimAnswer). x.ck) b);
        ik = ap (λ (x : UsimAnswer). x.ik) a ∙ sym (ap (λ (x : UsimAnswer). x.ik) b);
        auts = ap (λ (x : UsimAnswer). x.auts) a ∙ sym (ap (λ (x : UsimAnswer). x.auts) b);
      }

-- ---- the next record

module _ (scheme : Scheme) (fits : Fitting scheme) (family : Family) (lawful : Lawful family) (usim : Usim) (rand autn : Octets)
    (shaped : Shaped usim.keys) (bk : Below 256 usim.keys.k) (bo : Below 256 usim.keys.opc)
    (br : Below 256 rand) (ba : Below 256 autn) (valid : valid_usim scheme family usim ≡ true) where
  abbrev G : Functions
  G = family.under usim.keys

  abbrev concealed : Octets
  concealed = part 0 sqn_size autn

  admitted : family.admits usim.edition usim.keys ≡ true
  admitted = (known.valid_parts scheme family usim valid).0

  -- SQN is a number of 48 bits
  sqn_fits : length rand ≡ rand_size → length autn ≡ autn_size → FitsSqn (decode (sqn_in G rand autn))
  unfolding read_autn
  sqn_fits hr ha =
      let ak : length (G.f5 rand) ≡ sqn_size = (lawful.lengths usim.edition usim.keys admitted shaped).f5 rand hr in
      let front : length concealed ≡ sqn_size = length_part 0 sqn_size autn (omega arith) in
      let six : length (sqn_in G rand autn) ≡ sqn_size = length_xor concealed (G.f5 rand) (omega arith) ∙ front in
      subst (λ (k : ℕ). decode (sqn_in G rand autn) < 256 ^ k) six
      (number_lt 256 (sqn_in G rand autn)
      (below_xor 8 concealed (G.f5 rand) (below_part 256 0 sqn_size autn (omega arith) ba)
      (lawful.octets usim.edition usim.keys rand admitted shaped hr bk bo br)))

  stays_valid : valid_usim scheme family (challenge scheme family usim rand autn).usim ≡ true
  stays_valid = known.next_valid scheme family usim rand autn fits valid accepted_fits
    where
      accepted_fits : (challenge scheme family usim rand autn).verdict ≡ accepted → FitsSqn (decode (sqn_in G rand autn))
      accepted_fits e =
          let sizes = known.lengths_known rand autn (known.accepted_tests scheme family usim rand autn e).1 in
          sqn_fits sizes.0 sizes.1

valid_iff : (scheme : Scheme) (family : Family) (usim : Usim)
    → (valid_usim scheme family usim ≡ true) ↔ (
    (family.admits usim.edition usim.keys ≡ true)
    × ((i : ℕ) → get_or usim.places i 0 ≤ limit (width_of scheme usim.edition))
    × ((i : ℕ) → indices (width_of scheme usim.edition) ≤ i → get_or usim.places i 0 ≡ 0)
    )
unfolding valid_usim
valid_iff scheme family usim =
    let w = width_of scheme usim.edition in (
      λ e.
          let parts = known.valid_parts scheme family usim e in
          (parts.0, (within_iff (limit w) usim.places).0 parts.1, (zero_from (indices w) usim.places).0 parts.2),
      λ h. rw (h.0, (within_iff (limit w) usim.places).1 h.1, (zero_from (indices w) usim.places).1 h.2),
    )

zero_highest : (n : ℕ) → highest (replicate n 0) ≡ 0
unfolding highest
zero_highest zero = refl
zero_highest (suc n) = rw (zero_highest n)

new_seq : (scheme : Scheme) (edition : ℕ) (keys : Keys) → seq_ms (new_usim scheme edition keys) ≡ 0
new_seq scheme edition keys = zero_highest scheme.places

-- every place of a new card is 0
zero_place : (n i : ℕ) → get_or {A = ℕ} (replicate n 0) i 0 ≡ 0
zero_place zero i = refl
zero_place (suc n) zero = refl
zero_place (suc n) (suc i) = zero_place n i

valid_new : (scheme : Scheme) (family : Family) (edition : ℕ) (keys : Keys) → family.admits edition keys ≡ true
    → valid_usim scheme family (new_usim scheme edition keys) ≡ true
valid_new scheme family edition keys admitted =
    let place = zero_place scheme.places in
    (valid_iff scheme family (new_usim scheme edition keys)).1 (admitted, λ i. omega (arith, place i), λ i h. place i)

lowest : (scheme : Scheme) (family : Family) → Fitting scheme → (usim : Usim) → UsimShaped scheme usim
    → valid_usim scheme family usim ≡ true → LowestIndex (width_of scheme usim.edition) usim
lowest scheme family fits usim shaped valid =
    sqn_ms_lem (width_of scheme usim.edition) usim (rw shaped.places (fits.places usim.edition))
    (known.valid_parts scheme family usim valid).2

-- ---- all of it

pub usim_promise : (scheme : Scheme) (family : Family) → UsimPromise scheme family
usim_promise scheme family = record {
  laws = laws scheme family;
  sqn_ms_lem = lowest scheme family;
  alike = alike scheme family;
  valid = valid_iff scheme family;
  new_seq = new_seq scheme;
  new_valid = valid_new scheme family;
  stays_valid = λ fits lawful. stays_valid scheme fits family lawful;
}
