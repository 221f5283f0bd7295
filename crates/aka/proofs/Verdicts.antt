-- Laws of the USIM's answer. Assumes nothing.
use Prim.Native.Nat.{ℕ, ◌+◌, ◌-◌, ◌≤◌, ◌<◌}
use mathlib.Core.Bool.{Bool, true, false, ◌&&◌, ◌||◌, not, cond, and-eq-true_iff}
use mathlib.Core.List.{List}
use mathlib.Core.Logic.{◌↔◌}
use mathlib.Core.Path.{◌≡◌, refl, sym, ap, ap₂, ◌∙◌}
use native.Mathlib.Nat.{mod-lt}
use native.Mathlib.Omega.{arith}
use borrow.Author.Tests.{eqb-true, ltb-true, lt-ltb, leb-true, le-leb}
use lib.Dec.{eqb, ltb, leb}
use lib.ListN.{length, get_or, drop}
use lib.Pow.{pow_pos}
use Rattle.octets.specs.Octets.{Octets, zeros, encode, decode}
use Rattle.octets.proofs.Absurd.{zero_not_one}
use Rattle.octets.proofs.Refusals.{passed}
use Rattle.aka.specs.Layout.{all_zero, rand_size, autn_size, amf_size, auts_size, sqn_size}
use Rattle.aka.specs.Functions.{Functions, Family, Lengths, dummy_amf}
use Rattle.aka.specs.Sequence.{D, Scheme, Fitting, width_of, FitsSqn, indices, limit, sqn_of}
use Rattle.aka.specs.Usim.{Usim, UsimAnswer, highest, sqn_ms, all_within, valid_usim, lengths_right, sqn_in, seq_in, ind_in}
use Rattle.aka.specs.Usim.{mac_right, fresh}
use Rattle.aka.specs.Usim.{Verdict, accepted, mac_failure, sync_failure, refused}
use Rattle.aka.specs.Usim.{make_auts, stored, unchanged, judgement, verdict_on, answer_with, challenge}
use Rattle.aka.specs.Auc.{make_autn}
use Rattle.aka.proofs.Sequence.{seq_le}
use Rattle.aka.proofs.Places.{within_set, zeros_set}
use Rattle.aka.proofs.Tokens.{sqn_octets, length_sqn, autn_length, autn_mac, autn_seq, autn_ind}

-- ---- freshness in numbers: SEQ is above the place at IND and at most SEQ_MS + D

near : (seq ms : ℕ) → (ltb seq ms || leb (seq - ms) D) ≡ true → seq ≤ ms + D
near seq ms e = go (ltb seq ms) refl (leb (seq - ms) D) refl e
  where
    go : (b : Bool) → ltb seq ms ≡ b → (c : Bool) → leb (seq - ms) D ≡ c → (b || c) ≡ true → seq ≤ ms + D
    go true h c g q = omega (arith, ltb-true seq ms h)
    go false h true g q = omega (arith, leb-true (seq - ms) D g)
    go false h false g q = zero_not_one (cc)

near_test : (seq ms : ℕ) → seq ≤ ms + D → (ltb seq ms || leb (seq - ms) D) ≡ true
near_test seq ms h = go (ltb seq ms)
  where
    go : (b : Bool) → (b || leb (seq - ms) D) ≡ true
    go true = refl
    go false = le-leb (seq - ms) D (omega arith)

module _ (places : List ℕ) (seq ind : ℕ) where
  abbrev place : ℕ
  place = get_or places ind 0

  abbrev ms : ℕ
  ms = highest places

  pub fresh_iff : (fresh places seq ind ≡ true) ↔ ((place < seq) × (seq ≤ ms + D))
  unfolding fresh
  fresh_iff = (
    λ e.
        let both = (and-eq-true_iff (ltb place seq) (ltb seq ms || leb (seq - ms) D)).0 e in
        (ltb-true place seq both.0, near seq ms both.1),
    λ h. rw (lt-ltb place seq h.0, near_test seq ms h.1),
  )

-- ---- refusals 1 and 3

pub valid_parts : (scheme : Scheme) (family : Family) (usim : Usim) → valid_usim scheme family usim ≡ true
    → (family.admits usim.edition usim.keys ≡ true)
    × (all_within (limit (width_of scheme usim.edition)) usim.places ≡ true)
    × (all_zero (drop (indices (width_of scheme usim.edition)) usim.places) ≡ true)
unfolding valid_usim
valid_parts scheme family usim valid =
    let w = width_of scheme usim.edition in
    let admitted = family.admits usim.edition usim.keys in
    let within = all_within (limit w) usim.places in
    let all = (and-eq-true_iff (admitted && within) (all_zero (drop (indices w) usim.places))).0 valid in
    let two = (and-eq-true_iff admitted within).0 all.0 in
    (two.0, two.1, all.1)

pub lengths_known : (rand autn : Octets) → lengths_right rand autn ≡ true → (length rand ≡ rand_size) × (length autn ≡ autn_size)
unfolding lengths_right
lengths_known rand autn e =
    let both = (and-eq-true_iff (eqb (length rand) rand_size) (eqb (length autn) autn_size)).0 e in
    (eqb-true (length rand) rand_size both.0, eqb-true (length autn) autn_size both.1)

pub lengths_right_lem : (rand autn : Octets) → length rand ≡ rand_size → length autn ≡ autn_size → lengths_right rand autn ≡ true
unfolding lengths_right
lengths_right_lem rand autn hr ha = rw (hr, ha)

-- ---- any challenge

module _ (scheme : Scheme) (family : Family) (usim : Usim) (rand autn : Octets) where
  abbrev w : ℕ
  w = width_of scheme usim.edition

  abbrev F : Functions
  F = family.under usim.keys

  abbrev answer : UsimAnswer
  answer = challenge scheme family usim rand autn

  abbrev is_fresh : Bool
  is_fresh = fresh usim.places (seq_in w F rand autn) (ind_in w F rand autn)

  pub verdict_with : (v : Verdict) → (answer_with scheme family usim rand autn v).verdict ≡ v
  unfolding answer_with
  verdict_with accepted = refl
  verdict_with mac_failure = refl
  verdict_with sync_failure = refl
  verdict_with (refused number) = refl

  pub verdict_is : answer.verdict ≡ verdict_on scheme family usim rand autn
  unfolding challenge
  verdict_is = verdict_with (verdict_on scheme family usim rand autn)

  -- the answer is the one that goes with its verdict
  pub answer_of_lem : (v : Verdict) → answer.verdict ≡ v → answer ≡ answer_with scheme family usim rand autn v
  unfolding challenge
  answer_of_lem v e = ap (answer_with scheme family usim rand autn) (sym verdict_is ∙ e)

  unchanged_with : (v : Verdict) → (v ≡ accepted → ⊥) → (answer_with scheme family usim rand autn v).usim ≡ usim
  unfolding answer_with
  unchanged_with accepted h = absurd (h refl)
  unchanged_with mac_failure h = refl
  unchanged_with sync_failure h = refl
  unchanged_with (refused number) h = refl

  -- a verdict other than acceptance changes nothing
  pub not_accepted_unchanged : (answer.verdict ≡ accepted → ⊥) → answer.usim ≡ usim
  not_accepted_unchanged h = ap (λ (a : UsimAnswer). a.usim) (answer_of_lem answer.verdict refl) ∙ unchanged_with answer.verdict h

  edition_with : (v : Verdict) → (answer_with scheme family usim rand autn v).usim.edition ≡ usim.edition
  unfolding answer_with
  edition_with accepted = refl
  edition_with mac_failure = refl
  edition_with sync_failure = refl
  edition_with (refused number) = refl

  -- the next record is of the same edition
  pub same_edition : answer.usim.edition ≡ usim.edition
  same_edition = ap (λ (a : UsimAnswer). a.usim.edition) (answer_of_lem answer.verdict refl) ∙ edition_with answer.verdict

  -- an invalid record: refusal 1, whatever else is wrong
  pub refused_1 : valid_usim scheme family usim ≡ false → answer.verdict ≡ refused 1
  unfolding verdict_on
  refused_1 bad = verdict_is ∙ rw bad

  -- then another length of RAND or AUTN: refusal 3
  pub refused_3 : valid_usim scheme family usim ≡ true → lengths_right rand autn ≡ false → answer.verdict ≡ refused 3
  unfolding verdict_on
  refused_3 valid bad = verdict_is ∙ rw (valid, bad)

  -- a valid record, and RAND and AUTN of the lengths named: no refusal
  pub judged : valid_usim scheme family usim ≡ true → lengths_right rand autn ≡ true
      → answer.verdict ≡ judgement scheme family usim rand autn
  unfolding verdict_on
  judged valid lengths = verdict_is ∙ rw (valid, lengths)

  -- with a wrong MAC freshness is not looked at
  pub mac_wrong : valid_usim scheme family usim ≡ true → lengths_right rand autn ≡ true → mac_right F rand autn ≡ false
      → answer.verdict ≡ mac_failure
  unfolding judgement
  mac_wrong valid lengths wrong = judged valid lengths ∙ rw wrong

  pub mac_right_lem : valid_usim scheme family usim ≡ true → lengths_right rand autn ≡ true → mac_right F rand autn ≡ true
      → answer.verdict ≡ cond (not is_fresh) sync_failure accepted
  unfolding judgement
  mac_right_lem valid lengths right = judged valid lengths ∙ rw right

  -- a verdict that is no refusal: the record is valid, RAND and AUTN have their lengths, and it is the judgement
  unrefused : (v : Verdict) → ((number : ℕ) → v ≡ refused number → ⊥) → answer.verdict ≡ v
      → (valid_usim scheme family usim ≡ true) × (lengths_right rand autn ≡ true) × (judgement scheme family usim rand autn ≡ v)
  unfolding verdict_on
  unrefused v h e =
      let first = passed (valid_usim scheme family usim) {refusal = refused 1} (λ q. h 1 (sym q)) (sym verdict_is ∙ e) in
      let second = passed (lengths_right rand autn) {refusal = refused 3} (λ q. h 3 (sym q)) first.1 in
      (first.0, second.0, second.1)

  pub verdict_lengths : (v : Verdict) → ((number : ℕ) → v ≡ refused number → ⊥) → answer.verdict ≡ v → lengths_right rand autn ≡ true
  verdict_lengths v h e = (unrefused v h e).1

  -- an acceptance passed each test
  pub accepted_tests : answer.verdict ≡ accepted
      → (valid_usim scheme family usim ≡ true) × (lengths_right rand autn ≡ true) × (mac_right F rand autn ≡ true) × (is_fresh ≡ true)
  unfolding judgement
  accepted_tests e =
      let tests = unrefused accepted (λ number q. zero_not_one (cc)) e in
      let mac = passed (mac_right F rand autn) {refusal = mac_failure} (λ q. zero_not_one (cc)) tests.2 in
      let new = passed is_fresh {refusal = sync_failure} (λ q. zero_not_one (cc)) mac.1 in
      (tests.0, tests.1, mac.0, new.0)

  -- a synchronisation failure, whole
  pub sync_answer : answer.verdict ≡ sync_failure
      → answer ≡ unchanged sync_failure usim (make_auts F (encode sqn_size (sqn_ms w usim)) dummy_amf rand)
  unfolding answer_with
  sync_answer e = answer_of_lem sync_failure e

  -- the next record of a valid one is valid, where an accepted SQN has 48 bits
  pub next_valid : Fitting scheme → valid_usim scheme family usim ≡ true
      → (answer.verdict ≡ accepted → FitsSqn (decode (sqn_in F rand autn))) → valid_usim scheme family answer.usim ≡ true
  unfolding answer_with valid_usim
  next_valid fitting valid fits = go answer.verdict refl
    where
      parts : (family.admits usim.edition usim.keys ≡ true) × (all_within (limit w) usim.places ≡ true)
          × (all_zero (drop (indices w) usim.places) ≡ true)
      parts = valid_parts scheme family usim valid

      other : (answer.verdict ≡ accepted → ⊥) → valid_usim scheme family answer.usim ≡ true
      other h = ap (valid_usim scheme family) (not_accepted_unchanged h) ∙ valid

      go : (v : Verdict) → answer.verdict ≡ v → valid_usim scheme family answer.usim ≡ true
      go accepted e =
          let seq = seq_in w F rand autn in
          let ind = ind_in w F rand autn in
          let small : seq ≤ limit w = seq_le w (fitting.width usim.edition) (decode (sqn_in F rand autn)) (fits e) in
          ap (λ (a : UsimAnswer). valid_usim scheme family a.usim) (answer_of_lem accepted e)
          ∙ rw (
            parts.0,
            within_set (limit w) usim.places ind seq small parts.1,
            zeros_set (indices w) usim.places ind seq (mod-lt (decode (sqn_in F rand autn)) (pow_pos w)) parts.2,
          )
      go mac_failure e = other (λ q. zero_not_one (cc))
      go sync_failure e = other (λ q. zero_not_one (cc))
      go (refused number) e = other (λ q. zero_not_one (cc))

-- ---- a challenge that carries SEQ and IND under the same keys

module _ (scheme : Scheme) (fits : Fitting scheme) (family : Family) (usim : Usim) (L : Lengths (family.under usim.keys))
    (valid : valid_usim scheme family usim ≡ true) (seq ind : ℕ)
    (hq : seq ≤ limit (width_of scheme usim.edition)) (hi : ind < indices (width_of scheme usim.edition))
    (amf rand : Octets) (ha : length amf ≡ amf_size) (hr : length rand ≡ rand_size) where
  -- the functions of this subscriber
  abbrev x : ℕ
  x = width_of scheme usim.edition

  abbrev H : Functions
  H = family.under usim.keys

  abbrev made_autn : Octets
  made_autn = make_autn H (sqn_octets x seq ind) amf rand

  made_lengths : lengths_right rand made_autn ≡ true
  made_lengths =
      lengths_right_lem rand made_autn hr (autn_length H L (sqn_octets x seq ind) amf rand (length_sqn (sqn_of x seq ind)) ha hr)

  -- its verdict is freshness
  pub made_verdict : (challenge scheme family usim rand made_autn).verdict ≡ cond (not (fresh usim.places seq ind)) sync_failure accepted
  made_verdict =
      mac_right_lem scheme family usim rand made_autn valid made_lengths
      (autn_mac H L (sqn_octets x seq ind) amf rand (length_sqn (sqn_of x seq ind)) ha hr)
      ∙ ap₂ (λ (s i : ℕ). cond (not (fresh usim.places s i)) sync_failure accepted)
      (autn_seq x (fits.width usim.edition) H L seq ind hq hi amf rand ha hr)
      (autn_ind x (fits.width usim.edition) H L seq ind hq hi amf rand ha hr)

  abbrev pub accepted_answer : UsimAnswer
  accepted_answer = record {
    verdict = accepted;
    usim = stored usim seq ind;
    res = H.f2 rand;
    ck = H.f3 rand;
    ik = H.f4 rand;
    auts = zeros auts_size;
  }

  -- and if it is fresh the answer is known whole
  pub made_accepted : fresh usim.places seq ind ≡ true → challenge scheme family usim rand made_autn ≡ accepted_answer
  unfolding answer_with
  made_accepted f =
      answer_of_lem scheme family usim rand made_autn accepted (made_verdict ∙ rw f)
      ∙ rw (
        autn_seq x (fits.width usim.edition) H L seq ind hq hi amf rand ha hr,
        autn_ind x (fits.width usim.edition) H L seq ind hq hi amf rand ha hr,
      )
