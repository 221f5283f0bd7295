-- What the handset's answer promises, sentence by sentence of document 02, #101, beside TS 33.102 §6.3.3. Assumes nothing.
use Rattle.std.specs.Prelude.{ℕ, true, false, [], ◌++◌, ◌↔◌, ◌≡◌, length}
use Rattle.octets.specs.Octets.{Octets, zeros, part}
use Rattle.aka.specs.Layout.{auts_size}
use Rattle.aka.specs.Functions.{Family, Lawful, Shaped}
use Rattle.aka.specs.Sequence.{Scheme}
use Rattle.aka.specs.Usim.{Usim, UsimAnswer, challenge}
use Rattle.aka.specs.Usim as card
use Rattle.aka.specs.Handset.{Store, repeats, refusal_of, handed_on, HandsetAnswer, nothing_shown, challenged, told, in_order, clear}
use Rattle.aka.specs.Handset.{repeated, accepted, sync_failure, refused}

-- ---- one challenge, of any octets

-- refusal 3 does not apply
pub record LengthsNamed (store : Store) (rand autn fresh : Octets) : Type 0 where
  pub rand_size_lem : length rand ≡ 16
  pub autn_size_lem : length autn ≡ 16
  pub stored_size : length store.octets ≡ 56
  pub fresh_size : length fresh ≡ 40

module _ (scheme : Scheme) (family : Family) (usim : Usim) (store : Store) (rand autn fresh : Octets) where
  abbrev answer : HandsetAnswer
  answer = challenged scheme family usim store rand autn fresh

  -- the card's answer, if it is asked
  abbrev asked : UsimAnswer
  asked = challenge scheme family usim rand autn

  abbrev keys : Octets
  keys = asked.res ++ (asked.ck ++ asked.ik)

  abbrev Named : Type 0
  Named = LengthsNamed store rand autn fresh

  pub record Unchanged : Type 0 where
    pub usim_stays : answer.usim ≡ usim
    pub store_stays : answer.store ≡ store
    pub fresh_stays : answer.fresh ≡ fresh

  -- 'keep the last RAND with its RES, CK and IK': behind one another in the store, and without RAND in the fresh octets
  pub record Taken : Type 0 where
    pub card : answer.usim ≡ asked.usim
    pub stored : answer.store ≡ record { held = true; octets = rand ++ keys }
    pub fresh_is : answer.fresh ≡ keys
    pub shown_is : answer.shown ≡ keys

  pub record HandsetLaws : Type 0 where
    -- 'Refusals: 3 for a wrong length, else the card's own when it is asked.'
    pub refusal3 : (Named → ⊥) → answer ≡ nothing_shown usim store fresh (refused 3) (zeros auts_size)
    -- in document 01's numbers, 0 for none
    pub number3 : (Named → ⊥) → refusal_of answer.outcome ≡ 3
    pub number0 : answer.outcome ≡ repeated → refusal_of answer.outcome ≡ 0
    pub number : Named → repeats store rand ≡ false → refusal_of answer.outcome ≡ card.refusal_of asked.verdict
    -- 'when the same RAND comes again, repeat the answer without asking the card'
    pub same : Named → repeats store rand ≡ true → answer.outcome ≡ repeated
    pub other : Named → repeats store rand ≡ false → answer.outcome ≡ handed_on asked.verdict
    pub taken : answer.outcome ≡ accepted → Taken
    -- 'The answer shown .. is a part either of the stored bytes or of the fresh answer bytes'
    pub repeated_shown : answer.outcome ≡ repeated → answer.shown ≡ part 16 40 store.octets
    -- 'A failure verdict, handed on with its AUTS, or a refusal shows an empty part'
    pub empty : (answer.outcome ≡ repeated → ⊥) → (answer.outcome ≡ accepted → ⊥) → answer.shown ≡ []
    pub auts : answer.outcome ≡ sync_failure → answer.auts ≡ asked.auts
    pub no_auts : (answer.outcome ≡ sync_failure → ⊥) → answer.auts ≡ zeros auts_size
    -- 'these and a repeat leave store and fresh bytes as they were'
    pub unchanged : (answer.outcome ≡ accepted → ⊥) → Unchanged

-- ---- all of it

pub record HandsetPromise (scheme : Scheme) (family : Family) : Type 0 where
  pub laws : (usim : Usim) (store : Store) (rand autn fresh : Octets) → HandsetLaws scheme family usim store rand autn fresh
  -- 'unheld, no RAND matches'
  pub unheld : (octets rand : Octets) → repeats (record { held = false; octets = octets }) rand ≡ false
  pub held : (octets rand : Octets) → (repeats (record { held = true; octets = octets }) rand ≡ true) ↔ (part 0 16 octets ≡ rand)
  -- 'a held mark and 56 bytes, all zero when cleared'
  pub clears : (store : Store) → length store.octets ≡ 56
      → clear store ≡ record { refusal = 0; store = record { held = false; octets = zeros 56 } }
  pub clear_refusal3 : (store : Store) → (length store.octets ≡ 56 → ⊥) → clear store ≡ record { refusal = 3; store = store }
  -- answer, shown and keep, one after the other, make the whole answer
  pub in_order_lem : Lawful family → (usim : Usim) → Shaped usim.keys → (store : Store) (rand autn fresh : Octets)
      → in_order (told (challenged scheme family usim store rand autn fresh)) store rand
      ≡ challenged scheme family usim store rand autn fresh
