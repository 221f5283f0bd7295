-- The window, proved. Its core is of numbers alone: any numbers that rise, with an index that goes up by 1 for each, after the last to 0.
-- Assumes nothing.
use Prim.Native.Nat.{ℕ, zero, suc, ◌+◌, ◌-◌, ◌*◌, ◌%◌, ◌^◌, ◌≤◌, ◌<◌}
use mathlib.Core.Bool.{Bool, true, false, cond}
use mathlib.Core.List.{List, [], ◌∷◌, ◌++◌, append-nil}
use mathlib.Core.Logic.{◌⊎◌, inl, inr, ⊎_elim}
use mathlib.Core.Path.{◌≡◌, refl, sym, ap, ap₂, ◌∙◌, subst}
use native.Mathlib.Nat.{add-zero, mod-lt, mod-eq_of_lt, mod-add-mod, mod-eq-sub-mod}
use native.Mathlib.Omega.{arith}
use borrow.Author.Tests.{eqb-true, eqb-false, ltb-true, ltb-false}
use lib.Dec.{eqb, ltb}
use lib.ListN.{length, get_or, set, replicate, length-append, length-replicate, length-set, get_or-replicate}
use lib.Pow.{pow_pos}
use lib.Seq.{get_or-set_same, get_or-set_other}
use Rattle.octets.specs.Octets.{Octets, decode}
use Rattle.octets.proofs.Absurd.{zero_not_one}
use Rattle.aka.specs.Layout.{Vector, rand_size, rand_at, vector_at}
use Rattle.aka.specs.Functions.{Functions, Family, Lengths, Lawful}
use Rattle.aka.specs.Sequence.{D, Numbering, Scheme, Fitting, FitsSqn, width_of, indices, limit, sqn_of, seq_of, ind_of}
use Rattle.aka.specs.Usim.{Usim, UsimAnswer, Verdict, accepted, mac_failure, sync_failure, refused, challenge, fresh, new_usim, seq_ms}
use Rattle.aka.specs.Usim.{valid_usim, answer_with, sqn_in, seq_in, ind_in}
use Rattle.aka.specs.Auc.{Auc, AucShaped, AucAnswer, after_batch, batch_from, given_with, ind_at, make_vector, order, resync, valid_auc}
use Rattle.aka.specs.Demand3.{vector_seq}
use Rattle.aka.specs.Runs.{Event, ordering, resyncing, challenging, Stand, start_with, At, Among, vectors_in, sqn_with, vector_sqn}
use Rattle.aka.specs.Runs.{taken_with, after_centre, after_card, after, run}
use Rattle.aka.specs.Window.{span, Wide, AcceptedAs, Given, Proper, AllProper, Open, beginning, Window}
use Rattle.aka.proofs.Batches.{length_rand, batch_vector}
use Rattle.aka.proofs.Outcomes.{valid_iff}
use Rattle.aka.proofs.Runs.{at_inside, at_front, at_append, length_vectors, at_vectors, Stayed, Gave, order_step, resync_step}
use Rattle.aka.proofs.Sequence.{seq_sqn, ind_sqn, sqn_seq_ind, sqn_lt}
use Rattle.aka.proofs.Tokens.{sqn_octets, sqn_is, autn_seq}
use Rattle.aka.proofs.UsimLaws.{usim_promise}
use Rattle.aka.proofs.Verdicts as law

-- ---- the core

strictly : (g h : ℕ) → g ≤ h → (h ≡ g → ⊥) → g < h
strictly g h le ne = go (ltb g h) refl
  where
    go : (b : Bool) → ltb g h ≡ b → g < h
    go true e = ltb-true g h e
    go false e = let ge = ltb-false g h e in absurd (ne (omega arith))

module _ (m : ℕ) (some : 0 < m) where
  -- two numbers less than m apart have unlike remainders
  apart : (a b : ℕ) → a < b → b < a + m → a % m ≡ b % m → ⊥
  apart a b above below same = go (ltb (a % m + (b - a)) m) refl
    where
      d : ℕ
      d = b - a

      small : a % m < m
      small = mod-lt a some

      sum : (a % m + d) % m ≡ a % m
      sum = mod-add-mod a m d ∙ ap (λ (x : ℕ). x % m) (there a b above) ∙ sym same
        where
          there : (a b : ℕ) → a < b → a + (b - a) ≡ b
          there a b h = omega arith

      go : (t : Bool) → ltb (a % m + d) m ≡ t → ⊥
      go true e = omega (arith, sym (mod-eq_of_lt (ltb-true (a % m + d) m e)) ∙ sum)
      go false e =
          let over = ltb-false (a % m + d) m e in
          let less = mod-eq_of_lt (lower (a % m) d m small (gap a b below)) in
          omega (arith, over, sym (mod-eq-sub-mod over ∙ less) ∙ sum)
        where
          lower : (r d m : ℕ) → r < m → d < m → r + d - m < m
          lower r d m h g = omega arith

          gap : (a b : ℕ) → b < a + m → b - a < m
          gap a b h = omega arith

  -- of two of the last m of n rising numbers with one index the other is below: it was generated before
  pub below_other : (seq : ℕ → ℕ) (i n : ℕ) → ((j k : ℕ) → j < k → k < n → seq j < seq k)
      → (g h : ℕ) → g < n → h < n → n ≤ g + m → (h ≡ g → ⊥) → (i + h) % m ≡ (i + g) % m → seq h < seq g
  below_other seq i n rising g h inside other last ne same = go (ltb h g) refl
    where
      go : (b : Bool) → ltb h g ≡ b → seq h < seq g
      go true e = rising h g (ltb-true h g e) inside
      go false e =
          let later = strictly g h (ltb-false h g e) ne in
          absurd (apart (i + g) (i + h) (omega arith) (omega arith) (sym same))

  -- the place at an index holds nothing, or a number of that index that was taken; so one of the last m that was not taken is above it
  pub above_place : (seq : ℕ → ℕ) (i n : ℕ) → ((j k : ℕ) → j < k → k < n → seq j < seq k) → ((g : ℕ) → g < n → 0 < seq g)
      → (Taken : ℕ → Type 0) (places : List ℕ)
      → ((p : ℕ) → p < m → (get_or places p 0 ≡ 0)
      ⊎ ((h : ℕ) × (h < n) × Taken h × (get_or places p 0 ≡ seq h) × ((i + h) % m ≡ p)))
      → (g : ℕ) → g < n → n ≤ g + m → (Taken g → ⊥) → get_or places ((i + g) % m) 0 < seq g
  above_place seq i n rising positive Taken places held g inside last free = ⊎_elim
      (λ (none : get_or places p 0 ≡ 0). omega (arith, none, positive g inside))
      (λ (some : (h : ℕ) × (h < n) × Taken h × (get_or places p 0 ≡ seq h) × ((i + h) % m ≡ p)).
      let ne : some.0 ≡ g → ⊥ = λ e. free (subst Taken e some.2) in
      omega (arith, some.3, below_other seq i n rising g some.0 inside some.1 last ne some.4))
      (held p (mod-lt (i + g) some))
    where
      p : ℕ
      p = (i + g) % m

-- ---- a run from a valid record of the centre and a new card with its edition and keys

module _ (scheme : Scheme) (fits : Fitting scheme) (family : Family) (lawful : Lawful family)
    (auc : Auc) (shaped : AucShaped auc) (valid : valid_auc scheme family auc ≡ true) (wide : Wide scheme auc.edition) where
  abbrev m : Numbering
  m = scheme.numbering auc.edition

  abbrev w : ℕ
  w = m.width

  abbrev M : ℕ
  M = indices w

  abbrev F : Functions
  F = family.under auc.keys

  L : Lengths F
  L = lawful.lengths auc.edition auc.keys ((valid_iff scheme family auc).0 valid).0 shaped.keys

  -- SEQ and IND of the vector generated at place g of all
  abbrev seq : ℕ → ℕ
  seq g = auc.seqhe + 1 + g

  abbrev ind : ℕ → ℕ
  ind g = (auc.next + g) % M

  inside : (g : ℕ) → ind g < M
  inside g = mod-lt (auc.next + g) (pow_pos w)

  record Made (g : ℕ) (v : Vector) : Type 0 where
    pub size : length v.rand ≡ rand_size
    pub room : seq g ≤ limit w
    pub is : v ≡ make_vector F (sqn_octets w (seq g) (ind g)) auc.amf v.rand

  made_sqn : (g : ℕ) (v : Vector) → Made g v → vector_sqn F v ≡ sqn_of w (seq g) (ind g)
  unfolding make_vector
  made_sqn g v made =
      ap (λ (x : Vector). sqn_with F v.rand x.autn) made.is
      ∙ sqn_is w (fits.width auc.edition) F L (seq g) (ind g) made.room (inside g) auc.amf v.rand shaped.amf made.size

  -- ---- where a run stands after so many vectors

  -- the centre's record
  abbrev auc_at : (n : ℕ) → Auc
  auc_at n = record {
    edition = auc.edition;
    keys = auc.keys;
    amf = auc.amf;
    seqhe = auc.seqhe + n;
    next = (auc.next + n) % M;
  }

  abbrev card_with : List ℕ → Usim
  card_with l = record { edition = auc.edition; keys = auc.keys; places = l }

  abbrev stand_at : (l : List ℕ) (given : List Vector) (taken : List ℕ) → Stand
  stand_at l given taken = record { usim = card_with l; auc = auc_at (length given); given = given; taken = taken }

  record Facts (l : List ℕ) (given : List Vector) (taken : List ℕ) : Type 0 where
    pub size : length l ≡ scheme.places
    pub valid_card : valid_usim scheme family (card_with l) ≡ true
    pub vectors : (g : ℕ) (v : Vector) → At given g v → Made g v
    -- what was taken had been given
    pub numbers : (x : ℕ) → Among x taken → Given scheme family (stand_at l given taken) x
    -- a place holds nothing, or a number that was taken
    pub held : (p : ℕ) → p < M → (get_or l p 0 ≡ 0) ⊎ Among (sqn_of w (get_or l p 0) p) taken

  -- ---- after such a run the window is open

  module _ (l : List ℕ) (given : List Vector) (taken : List ℕ) (facts : Facts l given taken) where
    abbrev n : ℕ
    n = length given

    -- the number at a place is that of a vector of that index
    at_place : (p : ℕ) → p < M → Among (sqn_of w (get_or l p 0) p) taken
        → (h : ℕ) × (h < n) × Among (sqn_of w (seq h) (ind h)) taken × (get_or l p 0 ≡ seq h) × (ind h ≡ p)
    at_place p hp among =
        let x = sqn_of w (get_or l p 0) p in
        let from = facts.numbers x among in
        let h = from.0 in
        let same : sqn_of w (seq h) (ind h) ≡ x = sym (made_sqn h from.1 (facts.vectors h from.1 from.2)) ∙ from.3 in (
          h,
          at_inside given h from.1 from.2,
          subst (λ (y : ℕ). Among y taken) (sym same) among,
          sym (seq_sqn w (get_or l p 0) p hp) ∙ ap (seq_of w) (sym same) ∙ seq_sqn w (seq h) (ind h) (inside h),
          sym (ind_sqn w (seq h) (ind h) (inside h)) ∙ ap (ind_of w) same ∙ ind_sqn w (get_or l p 0) p hp,
        )

    held_by : (p : ℕ) → p < M → (get_or l p 0 ≡ 0)
        ⊎ ((h : ℕ) × (h < n) × Among (sqn_of w (seq h) (ind h)) taken × (get_or l p 0 ≡ seq h) × (ind h ≡ p))
    held_by p hp = ⊎_elim
        (λ (none : get_or l p 0 ≡ 0). inl none)
        (λ (among : Among (sqn_of w (get_or l p 0) p) taken). inr (at_place p hp among))
        (facts.held p hp)

    module _ (g : ℕ) (v : Vector) (at : At given g v) (made : Made g v) where
      number : vector_seq w F v ≡ seq g
      unfolding make_vector
      number =
          ap (λ (x : Vector). seq_in w F v.rand x.autn) made.is
          ∙ autn_seq w (fits.width auc.edition) F L (seq g) (ind g) made.room (inside g) auc.amf v.rand shaped.amf
          made.size

      above : n ≤ g + span → (Among (vector_sqn F v) taken → ⊥) → get_or l (ind g) 0 < seq g
      above last free =
          above_place M (pow_pos w) seq auc.next n (λ j k h i. omega arith) (λ k h. omega arith)
          (λ h. Among (sqn_of w (seq h) (ind h)) taken) l held_by g (at_inside given g v at) (omega (arith, last, wide.enough))
          (λ among. free (subst (λ (y : ℕ). Among y taken) (sym (made_sqn g v made)) among))

      answered : fresh l (seq g) (ind g) ≡ true
          → challenge scheme family (card_with l) v.rand v.autn
          ≡ law.accepted_answer scheme fits family (card_with l) L facts.valid_card (seq g) (ind g) made.room (inside g)
          auc.amf v.rand shaped.amf made.size
      unfolding make_vector
      answered is_fresh =
          ap (λ (x : Vector). challenge scheme family (card_with l) v.rand x.autn) made.is
          ∙ law.made_accepted scheme fits family (card_with l) L facts.valid_card (seq g) (ind g) made.room (inside g)
          auc.amf v.rand shaped.amf made.size is_fresh

    opened : Open scheme family (stand_at l given taken)
    unfolding make_vector
    opened g v at last free near =
        let made = facts.vectors g v at in
        let within : seq g ≤ seq_ms (card_with l) + D = subst (λ (s : ℕ). s ≤ seq_ms (card_with l) + D) (number g v at made) near in
        let a = answered g v at made ((law.fresh_iff l (seq g) (ind g)).1 (above g v at made last free, within)) in
        record {
          verdict = ap (λ (x : UsimAnswer). x.verdict) a;
          res = ap (λ (x : UsimAnswer). x.res) a ∙ sym (ap (λ (x : Vector). x.xres) made.is);
          ck = ap (λ (x : UsimAnswer). x.ck) a ∙ sym (ap (λ (x : Vector). x.ck) made.is);
          ik = ap (λ (x : UsimAnswer). x.ik) a ∙ sym (ap (λ (x : Vector). x.ik) made.is);
        }

  -- ---- a call of the centre

  -- what a step leaves
  record Next (s : Stand) : Type 0 where
    pub l : List ℕ
    pub given : List Vector
    pub taken : List ℕ
    pub same : s ≡ stand_at l given taken
    pub facts : Facts l given taken

  module _ (l : List ℕ) (given : List Vector) (taken : List ℕ) (facts : Facts l given taken) where
    abbrev G : ℕ
    G = length given

    abbrev here : Stand
    here = stand_at l given taken

    stayed : (a : AucAnswer) → Stayed scheme family (auc_at G) a → Next (after_centre here a)
    unfolding vectors_in
    stayed a still = record {
      l = l;
      given = given;
      taken = taken;
      same = λ i. record {
        usim = card_with l;
        auc = still.same i;
        given = (ap (λ (n : ℕ). given ++ vectors_in n a.batch) still.none ∙ append-nil given) i;
        taken = taken;
      };
      facts = facts;
    }

    -- the index has gone up for each vector
    index_on : (k : ℕ) → ((auc.next + G) % M + k) % M ≡ ind (G + k)
    index_on k = mod-add-mod (auc.next + G) M k ∙ ap (λ (x : ℕ). x % M) (omega arith)

    module _ (rands : Octets) (n : ℕ) (size : length rands ≡ rand_size * n) (room : auc.seqhe + G + n ≤ limit w) where
      abbrev batch : Octets
      batch = batch_from scheme family (auc_at G) (auc.seqhe + G) rands n

      abbrev longer : List Vector
      longer = given ++ vectors_in n batch

      length_longer : length longer ≡ G + n
      length_longer = length-append given (vectors_in n batch) ∙ ap (λ (k : ℕ). G + k) (length_vectors n batch)

      -- the record after the batch
      after_is : after_batch m (auc_at G) (auc.seqhe + G) n ≡ auc_at (length longer)
      after_is =
          let steps : cond m.per_vector n 1 ≡ n = ap (λ (b : Bool). cond b n 1) wide.each in
          let index = ap (λ (k : ℕ). ((auc.next + G) % M + k) % M) steps ∙ index_on n ∙ ap ind (sym length_longer) in
          let number : auc.seqhe + G + n ≡ auc.seqhe + length longer = omega (arith, length_longer) in
          λ i. record { edition = auc.edition; keys = auc.keys; amf = auc.amf; seqhe = number i; next = index i }

      -- a vector of the batch
      new_made : (k : ℕ) (v : Vector) → k < n → vector_at batch k ≡ v → Made (G + k) v
      unfolding make_vector
      new_made k v h e =
          let is = sym e ∙ batch_vector scheme family (auc_at G) L shaped.amf (auc.seqhe + G) rands n size k h in
          let rand : v.rand ≡ rand_at rands k = ap (λ (x : Vector). x.rand) is in
          let index : ind_at m (auc_at G) k ≡ ind (G + k) =
          ap (λ (b : Bool). ((auc.next + G) % M + cond b k 0) % M) wide.each ∙ index_on k in
          let number : auc.seqhe + G + 1 + k ≡ seq (G + k) = omega arith in
          record {
            size = ap length rand ∙ length_rand rands n size k h;
            room = omega (arith, room);
            is = is
                ∙ ap₂ (λ (s i : ℕ). make_vector F (sqn_octets w s i) auc.amf (rand_at rands k)) number index
                ∙ ap (make_vector F (sqn_octets w (seq (G + k)) (ind (G + k))) auc.amf) (sym rand);
          }

      all_made : (g : ℕ) (v : Vector) → At longer g v → Made g v
      all_made g v at = ⊎_elim
          (λ (old : At given g v). facts.vectors g v old)
          (λ (new : (k : ℕ) × (g ≡ G + k) × At (vectors_in n batch) k v).
          let there = at_vectors n batch new.0 v new.2 in
          subst (λ (j : ℕ). Made j v) (sym new.1) (new_made new.0 v there.0 there.1))
          (at_append given (vectors_in n batch) g v at)

      facts_longer : Facts l longer taken
      facts_longer = record {
        size = facts.size;
        valid_card = facts.valid_card;
        vectors = all_made;
        numbers = λ x among.
            let from = facts.numbers x among in
            (from.0, from.1, at_front given (vectors_in n batch) from.0 from.1 from.2, from.3);
        held = facts.held;
      }

    gave : (a : AucAnswer) → Gave scheme family (auc_at G) a → Next (after_centre here a)
    gave a b = record {
      l = l;
      given = longer b.rands b.n b.size b.room;
      taken = taken;
      same = ap (after_centre here) b.is
          ∙ (λ i. record {
            usim = card_with l;
            auc = after_is b.rands b.n b.size b.room i;
            given = longer b.rands b.n b.size b.room;
            taken = taken;
          });
      facts = facts_longer b.rands b.n b.size b.room;
    }

    centre_step : (a : AucAnswer) → Stayed scheme family (auc_at G) a ⊎ Gave scheme family (auc_at G) a → Next (after_centre here a)
    centre_step a s = ⊎_elim (λ (x : Stayed scheme family (auc_at G) a). stayed a x) (λ (x : Gave scheme family (auc_at G) a). gave a x) s

    -- ---- a challenge

    module _ (rand autn : Octets) where
      abbrev answer : UsimAnswer
      answer = challenge scheme family (card_with l) rand autn

      abbrev sqn : ℕ
      sqn = sqn_with F rand autn

      abbrev i : ℕ
      i = ind_of w sqn

      abbrev s : ℕ
      s = seq_of w sqn

      -- an SQN that was given has 48 bits
      given_fits : Given scheme family here sqn → FitsSqn sqn
      given_fits from =
          let made = facts.vectors from.0 from.1 from.2 in
          subst (λ (x : ℕ). FitsSqn x) (sym (made_sqn from.0 from.1 made) ∙ from.3)
          (sqn_lt w (fits.width auc.edition) (seq from.0) (ind from.0) made.room (inside from.0))

      inside_card : i < length l
      inside_card = omega (arith, facts.size, mod-lt sqn (pow_pos w), fits.places auc.edition)

      still_held : (p : ℕ) → p < M → (b : Bool) → eqb p i ≡ b
          → (get_or (set l i s) p 0 ≡ 0) ⊎ Among (sqn_of w (get_or (set l i s) p 0) p) (sqn ∷ taken)
      still_held p hp true e =
          let here = eqb-true p i e in
          let place : get_or (set l i s) p 0 ≡ s = ap (λ (j : ℕ). get_or (set l i s) j 0) here ∙ get_or-set_same l i s 0 inside_card in
          inr (inl (ap₂ (sqn_of w) place here ∙ sqn_seq_ind w sqn))
      still_held p hp false e =
          let place = get_or-set_other l i p s 0 (eqb-false p i e) in
          ⊎_elim
          (λ (none : get_or l p 0 ≡ 0). inl (place ∙ none))
          (λ (among : Among (sqn_of w (get_or l p 0) p) taken).
          inr (inr (subst (λ (x : ℕ). Among (sqn_of w x p) taken) (sym place) among)))
          (facts.held p hp)

      taken_facts : (next : valid_usim scheme family (card_with (set l i s)) ≡ true) → Given scheme family here sqn
          → Facts (set l i s) given (sqn ∷ taken)
      taken_facts next from = record {
        size = length-set l i s ∙ facts.size;
        valid_card = next;
        vectors = facts.vectors;
        numbers = λ x among. ⊎_elim
            (λ (new : x ≡ sqn). (from.0, from.1, from.2, from.3 ∙ sym new))
            (λ (old : Among x taken). facts.numbers x old)
            among;
        held = λ p hp. still_held p hp (eqb p i) refl;
      }

      unaccepted : (v : Verdict) → answer.verdict ≡ v → (v ≡ accepted → ⊥) → taken_with v sqn taken ≡ taken
          → Next (after_card here sqn answer)
      unaccepted v e other none = record {
        l = l;
        given = given;
        taken = taken;
        same = λ j. record {
          usim = law.not_accepted_unchanged scheme family (card_with l) rand autn (λ q. other (sym e ∙ q)) j;
          auc = auc_at G;
          given = given;
          taken = (ap (λ (x : Verdict). taken_with x sqn taken) e ∙ none) j;
        };
        facts = facts;
      }

      card_step : (answer.verdict ≡ accepted → Given scheme family here sqn) → Next (after_card here sqn answer)
      unfolding answer_with
      card_step proper = go answer.verdict refl
        where
          go : (v : Verdict) → answer.verdict ≡ v → Next (after_card here sqn answer)
          go accepted e =
              let usim : answer.usim ≡ card_with (set l i s) =
              ap (λ (a : UsimAnswer). a.usim) (law.answer_of_lem scheme family (card_with l) rand autn accepted e) in
              let next = law.next_valid scheme family (card_with l) rand autn fits facts.valid_card (λ q. given_fits (proper q)) in
              record {
                l = set l i s;
                given = given;
                taken = sqn ∷ taken;
                same = λ j. record {
                  usim = usim j;
                  auc = auc_at G;
                  given = given;
                  taken = ap (λ (v : Verdict). taken_with v sqn taken) e j;
                };
                facts = taken_facts (sym (ap (valid_usim scheme family) usim) ∙ next) (proper e);
              }
          go mac_failure e = unaccepted mac_failure e (λ q. zero_not_one (cc)) refl
          go sync_failure e = unaccepted sync_failure e (λ q. zero_not_one (cc)) refl
          go (refused number) e = unaccepted (refused number) e (λ q. zero_not_one (cc)) refl

    step : (e : Event) → Proper scheme family here e → Next (after scheme family here e)
    unfolding after
    step (ordering count rands buffer) proper = centre_step _ (order_step scheme family (auc_at G) count rands buffer)
    step (resyncing count rands buffer rand auts) proper =
        centre_step _ (resync_step scheme family (auc_at G) count rands buffer rand auts proper)
    step (challenging rand autn) proper = card_step rand autn proper

  -- ---- the whole run

  walk : (events : List Event) (l : List ℕ) (given : List Vector) (taken : List ℕ) → Facts l given taken
      → AllProper scheme family (stand_at l given taken) events → Open scheme family (run scheme family (stand_at l given taken) events)
  unfolding run AllProper
  walk [] l given taken facts proper = opened l given taken facts
  walk (e ∷ rest) l given taken facts proper =
      let next = step l given taken facts e proper.0 in
      subst (λ (s : Stand). AllProper scheme family s rest → Open scheme family (run scheme family s rest)) (sym next.same)
      (walk rest next.l next.given next.taken next.facts) proper.1

  new_facts : Facts (replicate scheme.places 0) [] []
  new_facts =
      let promise = usim_promise scheme family in
      let card = promise.new_valid auc.edition auc.keys ((valid_iff scheme family auc).0 valid).0 in
      record {
        size = length-replicate {A = ℕ} scheme.places 0;
        valid_card = card;
        vectors = λ g v at. absurd at;
        numbers = λ x among. absurd among;
        held = λ p h. inl (get_or-replicate scheme.places p 0 0 (omega (arith, fits.places auc.edition)));
      }

  at_start : beginning scheme family auc ≡ stand_at (replicate scheme.places 0) [] []
  at_start =
      let seqhe : auc.seqhe ≡ auc.seqhe + 0 = sym (add-zero auc.seqhe) in
      let next : auc.next ≡ (auc.next + 0) % M =
      sym (ap (λ (x : ℕ). x % M) (add-zero auc.next) ∙ mod-eq_of_lt ((valid_iff scheme family auc).0 valid).2) in
      λ i. record {
        usim = card_with (replicate scheme.places 0);
        auc = record { edition = auc.edition; keys = auc.keys; amf = auc.amf; seqhe = seqhe i; next = next i };
        given = [];
        taken = [];
      }

  whole : (events : List Event) → AllProper scheme family (beginning scheme family auc) events
      → Open scheme family (run scheme family (beginning scheme family auc) events)
  whole events =
      subst (λ (s : Stand). AllProper scheme family s events → Open scheme family (run scheme family s events)) (sym at_start)
      (walk events (replicate scheme.places 0) [] [] new_facts)

pub window : Window
window = whole
