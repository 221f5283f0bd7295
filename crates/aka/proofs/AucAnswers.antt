-- What the AuC's answers to an order and to a resynchronisation have in common. Assumes nothing.
use Prim.Native.Nat.{ℕ, suc, ◌+◌, ◌%◌, ◌≤◌, ◌<◌}
use mathlib.Core.Bool.{Bool, true, false, not, cond}
use mathlib.Core.Path.{◌≡◌, refl, sym, ap, ◌∙◌, subst}
use native.Mathlib.Nat.{mod-lt, mod-eq_of_lt, mod_self, mod-add-mod, add-zero}
use native.Mathlib.Numerals.{add-one}
use native.Mathlib.Omega.{arith}
use borrow.Author.Tests.{eqb-true, ne_eqb, le-leb, lt-ltb, ltb-false}
use lib.Dec.{eqb, ltb}
use lib.ListN.{length}
use lib.Pow.{pow_pos}
use Rattle.octets.specs.Octets.{Octets, encode}
use Rattle.aka.specs.Layout.{Vector, rand_size, sqn_size, most_vectors, read_autn, rand_at, vector_at}
use Rattle.aka.specs.Functions.{Functions, Family, Lengths}
use Rattle.aka.specs.Sequence.{Numbering, Scheme, sqn_bits, indices, limit, sqn_of}
use Rattle.aka.specs.Usim.{seq_in, ind_in, mac_right}
use Rattle.aka.specs.Auc.{Auc, AucAnswer, equal_at, Outcome, given, kept, reset, refused, repeated, refusal_of, first_of, second_of}
use Rattle.aka.specs.Auc.{valid_auc, equal_pair, make_vector, seq_at, ind_at}
use Rattle.aka.specs.Auc.{after_batch, vector_from, batch_from, unless_refused, unless_past, given_with, refused_with, answer_with}
use Rattle.aka.specs.AucLaws.{IndexAfter, Sound, Refuses, Generates, Stays}
use Rattle.aka.proofs.Tokens.{length_sqn, autn_amf, autn_mac, autn_seq, autn_ind}
use Rattle.aka.proofs.Batches.{length_rand, length_batch, batch_vector}
use Rattle.aka.proofs.Outcomes.{valid_iff, refusal_1, refusal_2, refusal_3, refusal_4}
use Rattle.aka.proofs.Outcomes.{answer_refused}

-- ---- an index goes up

index_after : (w i : ℕ) → IndexAfter w i ((i + 1) % indices w)
index_after w i = record {
  next = λ h. rw (add-one i) (mod-eq_of_lt h);
  last = λ e. rw (add-one i, e) (mod_self (indices w));
}

-- ---- a batch

module _ (scheme : Scheme) (family : Family) (auc : Auc) (count n : ℕ) (rands buffer : Octets) where
  abbrev m : Numbering
  m = scheme.numbering auc.edition

  abbrev w : ℕ
  w = m.width

  module _ (s : Sound scheme family auc count n rands buffer) (from : ℕ) (room : from + n ≤ limit w) (outcome : Outcome) where
    abbrev F : Functions
    F = family.under auc.keys

    abbrev batch : Octets
    batch = batch_from scheme family auc from rands n

    L : Lengths F
    L = s.lawful.lengths auc.edition auc.keys ((valid_iff scheme family auc).0 s.asking.valid).0 s.keys

    vector_is : (k : ℕ) → k < n → vector_at batch k ≡ vector_from scheme family auc from rands k
    vector_is k h = batch_vector scheme family auc L s.amf from rands n s.sizes.rands_size_lem k h

    abbrev number : ℕ → ℕ
    number k = sqn_of w (seq_at from k) (ind_at m auc k)

    abbrev sqn : ℕ → Octets
    sqn k = encode sqn_size (number k)

    next_inside : auc.next < indices w
    next_inside = ((valid_iff scheme family auc).0 s.asking.valid).2

    index : (k : ℕ) → ind_at m auc k < indices w
    index k = mod-lt _ (pow_pos w)

    rand_size_lem : (k : ℕ) → k < n → length (rand_at rands k) ≡ rand_size
    rand_size_lem k h = length_rand rands n s.sizes.rands_size_lem k h

    width : w ≤ sqn_bits
    width = s.fits.width auc.edition

    indexed : (k : ℕ) → k < n → ind_in w F (vector_at batch k).rand (vector_at batch k).autn ≡ ind_at m auc k
    unfolding make_vector
    indexed k h =
        ap (λ (v : Vector). ind_in w F v.rand v.autn) (vector_is k h)
        ∙ autn_ind w width F L (seq_at from k) (ind_at m auc k) (omega arith) (index k) auc.amf (rand_at rands k) s.amf (rand_size_lem k h)

    numbered : (k : ℕ) → k < n → seq_in w F (vector_at batch k).rand (vector_at batch k).autn ≡ from + 1 + k
    unfolding make_vector
    numbered k h =
        ap (λ (v : Vector). seq_in w F v.rand v.autn) (vector_is k h)
        ∙ autn_seq w width F L (seq_at from k) (ind_at m auc k) (omega arith) (index k) auc.amf (rand_at rands k) s.amf (rand_size_lem k h)

    carries_amf : (k : ℕ) → k < n → (read_autn (vector_at batch k).autn).amf ≡ auc.amf
    unfolding make_vector
    carries_amf k h =
        ap (λ (v : Vector). (read_autn v.autn).amf) (vector_is k h)
        ∙ autn_amf F L (sqn k) auc.amf (rand_at rands k) (length_sqn (number k)) s.amf (rand_size_lem k h)

    right_mac : (k : ℕ) → k < n → mac_right F (vector_at batch k).rand (vector_at batch k).autn ≡ true
    unfolding make_vector
    right_mac k h =
        ap (λ (v : Vector). mac_right F v.rand v.autn) (vector_is k h)
        ∙ autn_mac F L (sqn k) auc.amf (rand_at rands k) (length_sqn (number k)) s.amf (rand_size_lem k h)

    -- one index for the batch; and for each vector
    of_batch : m.per_vector ≡ false → (k : ℕ) → ind_at m auc k ≡ auc.next
    of_batch e k = rw (e, add-zero auc.next) (mod-eq_of_lt next_inside)

    of_vectors : (k : ℕ) → IndexAfter w ((auc.next + k) % indices w) ((auc.next + suc k) % indices w)
    of_vectors k =
        let same : auc.next + k + 1 ≡ auc.next + suc k = omega arith in
        subst (IndexAfter w ((auc.next + k) % indices w)) (mod-add-mod (auc.next + k) (indices w) 1 ∙ ap (λ (x : ℕ). x % indices w) same)
        (index_after w ((auc.next + k) % indices w))

    pub generates : Generates scheme family auc count n rands buffer from (given_with scheme family auc from rands n outcome)
    unfolding make_vector
    generates = record {
      vectors = refl;
      size = length_batch scheme family auc L s.amf from rands n s.sizes.rands_size_lem;
      rand = λ k h. ap (λ (v : Vector). v.rand) (vector_is k h);
      xres = λ k h. ap (λ (v : Vector). v.xres) (vector_is k h);
      ck = λ k h. ap (λ (v : Vector). v.ck) (vector_is k h);
      ik = λ k h. ap (λ (v : Vector). v.ik) (vector_is k h);
      amf = carries_amf;
      mac = right_mac;
      seq = numbered;
      ind = λ e k h. indexed k h ∙ of_batch e k;
      next = λ e. rw e (index_after w auc.next);
      ind_first = λ e h. indexed 0 h ∙ rw (e, add-zero auc.next) (mod-eq_of_lt next_inside);
      ind_after = λ e k h. rw (indexed k (omega arith), indexed (suc k) h, e) (of_vectors k);
      next_after = λ e k h. rw (indexed k (omega arith), e, sym h) (of_vectors k);
      last = λ k e. omega (arith, numbered k (omega arith));
      same_edition = refl;
      same_keys = refl;
      same_amf = refl;
    }

  -- ---- what an outcome says

  -- only refusal 4 names a pair
  no_pair : (o : Outcome) → (refusal_of o ≡ 4 → ⊥) → (first_of o ≡ 0) × (second_of o ≡ 0)
  no_pair given h = (refl, refl)
  no_pair kept h = (refl, refl)
  no_pair reset h = (refl, refl)
  no_pair (refused number) h = (refl, refl)
  no_pair (repeated i j) h = absurd (h refl)

  -- refusals 1 to 4 of an answer that has `rest` behind them
  pub refuses : (Named : Type 0) (lent : Bool) (rest : Outcome) (answer : AucAnswer)
      → answer.outcome ≡ unless_refused scheme family auc count n lent rands rest → (Named → lent ≡ true) → (lent ≡ true → Named)
      → Refuses scheme family auc count n rands buffer Named answer
  refuses Named lent rest answer is to from = record {
    refusal1 = one;
    refusal2 = two;
    refusal3 = three;
    refusal4 = four;
    number1 = λ bad. ap refusal_of (one bad);
    number2 = λ valid many. ap refusal_of (two valid many);
    number3 = λ valid few bad. ap refusal_of (three valid few bad);
    pair4 = λ i j valid few named pair. let e = four i j valid few named pair in (ap refusal_of e, ap first_of e, ap second_of e);
    pair0 = no_pair answer.outcome;
  }
    where
      other : (Named → ⊥) → lent ≡ false
      other bad = go lent refl
        where
          go : (b : Bool) → lent ≡ b → b ≡ false
          go true e = absurd (bad (from e))
          go false e = refl

      one : valid_auc scheme family auc ≡ false → answer.outcome ≡ refused 1
      one bad = is ∙ refusal_1 scheme family auc count n lent rands rest bad

      two : valid_auc scheme family auc ≡ true → most_vectors < count → answer.outcome ≡ refused 2
      two valid many = is ∙ refusal_2 scheme family auc count n lent rands rest valid many

      three : valid_auc scheme family auc ≡ true → count ≤ most_vectors → (Named → ⊥) → answer.outcome ≡ refused 3
      three valid few bad = is ∙ refusal_3 scheme family auc count n lent rands rest valid few (other bad)

      four : (i j : ℕ) → valid_auc scheme family auc ≡ true → count ≤ most_vectors → Named → equal_pair rands n ≡ equal_at i j
          → answer.outcome ≡ repeated i j
      four i j valid few named pair = is ∙ refusal_4 scheme family auc count n lent rands rest valid few i j (to named) pair

  -- where refusal 6 does not apply, the last SEQ is within the limit
  pub behind_six : (from : ℕ) (rest : Outcome) → refusal_of (unless_past scheme family auc from n rest) ≡ 0
      → (unless_past scheme family auc from n rest ≡ rest) × (from + n ≤ limit w)
  unfolding unless_past
  behind_six from rest e = go (ltb (limit w) (from + n)) refl e
    where
      go : (b : Bool) → ltb (limit w) (from + n) ≡ b → refusal_of (cond b (refused 6) rest) ≡ 0
          → (cond b (refused 6) rest ≡ rest) × (from + n ≤ limit w)
      go true t q = absurd (omega arith)
      go false t q = (refl, ltb-false (limit w) (from + n) t)

  -- ---- what goes with an outcome

  module _ (from : ℕ) where
    abbrev answer : Outcome → AucAnswer
    answer o = answer_with scheme family auc from rands n buffer o

    pub outcome_is : (o : Outcome) → (answer o).outcome ≡ o
    unfolding answer_with
    outcome_is o = go (eqb (refusal_of o) 0)
      where
        go : (b : Bool) → (cond b (given_with scheme family auc from rands n o) (refused_with scheme family auc buffer o)).outcome ≡ o
        go true = refl
        go false = refl

    pub stays_with : (o : Outcome) → (refusal_of (answer o).outcome ≡ 0 → ⊥) → Stays scheme family auc count n rands buffer (answer o)
    stays_with o h =
        let is = answer_refused scheme family auc from rands n buffer o
        (ne_eqb (refusal_of o) 0 (λ e. h (ap refusal_of (outcome_is o) ∙ e))) in
        record {
          none = ap (λ (a : AucAnswer). a.n) is;
          same_auc = ap (λ (a : AucAnswer). a.auc) is;
          same_buffer = ap (λ (a : AucAnswer). a.batch) is;
        }

    after_valid : valid_auc scheme family auc ≡ true → from + n ≤ limit w → valid_auc scheme family (after_batch m auc from n) ≡ true
    unfolding valid_auc
    after_valid v h =
        let up = auc.next + cond m.per_vector n 1 in
        let index = lt-ltb (up % indices w) (indices w) (mod-lt up (pow_pos w)) in
        rw (((valid_iff scheme family auc).0 v).0, le-leb (from + n) (limit w) h, index)

    pub valid_with : valid_auc scheme family auc ≡ true → (o : Outcome) → (refusal_of o ≡ 0 → from + n ≤ limit w)
        → valid_auc scheme family (answer o).auc ≡ true
    unfolding answer_with
    valid_with v o h = go (eqb (refusal_of o) 0) refl
      where
        go : (b : Bool) → eqb (refusal_of o) 0 ≡ b
            → valid_auc scheme family (cond b (given_with scheme family auc from rands n o) (refused_with scheme family auc buffer o)).auc
            ≡ true
        go true e = after_valid v (h (eqb-true (refusal_of o) 0 e))
        go false e = v
