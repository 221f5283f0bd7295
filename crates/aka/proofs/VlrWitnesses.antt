-- The laws of the VLR are not empty: one list of calls on a new node in which each outcome occurs, and records that are refused.
-- Assumes nothing.
use Prim.Native.Nat.{ℕ, ◌+◌, ◌*◌}
use mathlib.Core.List.{List, [], ◌∷◌, ◌++◌, map}
use mathlib.Core.Path.{◌≡◌, refl}
use lib.ListN.{get_or, replicate}
use Rattle.octets.specs.Octets.{Octets, equal}
use Rattle.aka.specs.Layout.{Vector, Triplet, vector, triplet, write_vector, read_vector, write_triplet, read_triplet, joined}
use Rattle.aka.specs.Vlr.{Vlr, State, idle, asked, resyncing, done, passed, cause, refused, most_held, place_size, new_vlr, all_zero}
use Rattle.aka.specs.Vlr.{vector_run, triplet_run, good_place, good_places, valid_vlr, count_fits, batch_fits, refusal_or, unless_refused}
use Rattle.aka.specs.Vlr.{queued, oldest_out, none_out, request, store_refusal, ask_refusal, asked_refusal, res_right, pass_if}
use Rattle.aka.specs.Vlr.{sync_refusal}
use Rattle.aka.specs.Vlr.{resync_request, renew_refusal, timeout_refusal}
use Rattle.aka.specs.Vlr as node
use Rattle.aka.specs.Calls.{Call, reply, store, renew, ask, again, answer, sync, reject, timeout, abandon}
use Rattle.aka.specs.OrderOfUse.{History, Way, requested, dropped, Gone, Handled, nothing_yet, is_in, is_unused, unused_from, unused}
use Rattle.aka.specs.OrderOfUse.{leave, after, answers}

-- the vector whose RAND is n in each octet, its other parts different
abbrev pub a_vector : ℕ → Vector
a_vector n = record {
  rand = replicate 16 n;
  xres = replicate 8 (n + 50);
  ck = replicate 16 (n + 100);
  ik = replicate 16 (n + 150);
  autn = replicate 16 (n + 200);
}

abbrev pub one : ℕ → Octets
one n = write_vector (a_vector n)

abbrev two : ℕ → Octets
two n = one n ++ one (n + 1)

-- and such a triplet
abbrev pub a_triplet : ℕ → Triplet
a_triplet n = record { rand = replicate 16 n; sres = replicate 4 (n + 50); kc = replicate 8 (n + 100) }

abbrev pub one_triplet : ℕ → Octets
one_triplet n = write_triplet (a_triplet n)

abbrev auts : Octets
auts = replicate 14 9

-- 1 and 2 are stored and asked, one answered wrongly in the last octet and one rightly; 3 and 4 are asked, one rejected and one answered
-- with AUTS, while 5 and 6 are stored; a timeout keeps them; 5 is asked, and its AUTS leads to 8 and 9 in place of 6
abbrev calls : List Call
calls =
    ask
    ∷ store vector 0 []
    ∷ store vector 2 (one 1)
    ∷ store vector 2 (two 1)
    ∷ again
    ∷ ask
    ∷ again
    ∷ answer (replicate 7 51 ++ (0 ∷ []))
    ∷ ask
    ∷ answer (a_vector 2).xres
    ∷ store vector 2 (two 3)
    ∷ ask
    ∷ reject
    ∷ ask
    ∷ store vector 2 (two 5)
    ∷ sync auts
    ∷ store vector 1 (one 7)
    ∷ timeout
    ∷ ask
    ∷ sync auts
    ∷ renew vector 2 (two 8)
    ∷ ask
    ∷ abandon
    ∷ []

abbrev walk : List Handled
walk = answers reply new_vlr calls

-- what they tell
unfoldable pub told : History → List Handled → History
told h [] = h
told h (x ∷ rest) = told (after h x) rest

-- both kinds in one queue: 1, 3 and 4 are triplets, 2 is a vector. A batch of the other kind's length, Sync on a triplet, a response of a
-- vector's length to a triplet and one of a triplet's length with nothing out are refused; 1 is answered rightly, 3 rejected, 4 answered
-- wrongly
abbrev mixed : List Handled
mixed = answers reply new_vlr (
    store triplet 1 (one_triplet 1)
    ∷ store vector 1 (one 2)
    ∷ store triplet 2 (one_triplet 3 ++ one_triplet 4)
    ∷ store triplet 1 (one 5)
    ∷ store vector 1 (one_triplet 5)
    ∷ ask
    ∷ again
    ∷ sync auts
    ∷ answer ((a_triplet 1).sres ++ replicate 4 101)
    ∷ answer (a_triplet 1).sres
    ∷ answer (a_triplet 1).sres
    ∷ ask
    ∷ sync auts
    ∷ timeout
    ∷ ask
    ∷ reject
    ∷ ask
    ∷ answer (replicate 3 54 ++ (0 ∷ []))
    ∷ [])

-- sixteen are stored, and one more
abbrev five : ℕ → Octets
five n = two n ++ two (n + 2) ++ one (n + 4)

abbrev filling : List Handled
filling = answers reply new_vlr (
    store vector 5 (five 1)
    ∷ store vector 5 (five 6)
    ∷ store vector 5 (five 11)
    ∷ store vector 2 (two 16)
    ∷ store vector 1 (one 16)
    ∷ ask
    ∷ store vector 2 (two 17)
    ∷ store vector 6 []
    ∷ store vector 1 (one 17)
    ∷ [])

-- a record of this held count, with the octets of its queue and of its outstanding place all of one value but for the kind of a place
abbrev filled : (kind value : ℕ) → Octets
filled kind value = kind ∷ replicate 72 value

abbrev record_with : State → (held place out : ℕ) → Vlr
record_with state held place out = record {
  state = state;
  held = held;
  queue = joined (λ k. filled 0 place) most_held;
  out = filled 0 out;
}

-- a triplet, with octets of this value behind it
abbrev tail : (kind behind : ℕ) → Octets
tail kind behind = kind ∷ (replicate 28 7 ++ replicate 44 behind)

-- it is held, and it is out
abbrev holding : (kind behind : ℕ) → Vlr
holding kind behind = record {
  state = idle;
  held = 1;
  queue = tail kind behind ++ replicate (place_size * 15) 0;
  out = replicate place_size 0;
}

abbrev asking : (kind behind : ℕ) → Vlr
asking kind behind = record { state = asked; held = 0; queue = replicate (place_size * most_held) 0; out = tail kind behind }

abbrev by : Way → ℕ → Gone
by way p = record { position = p; way = way }

pub record Computed : Type 0 where
  -- each outcome occurs
  pub outcomes : map (λ s. s.answer.outcome) walk
      ≡ refused 8 ∷ refused 2 ∷ refused 3 ∷ done ∷ refused 7 ∷ done ∷ done ∷ cause 2 ∷ done ∷ passed ∷ done ∷ done ∷ cause 1 ∷ done ∷ done
      ∷ done ∷ refused 7 ∷ done ∷ done ∷ done ∷ done ∷ done ∷ done ∷ []
  -- which vectors' RAND, AUTN and CK are given (0: none), and how many are held
  pub rands : map (λ s. get_or s.answer.rand 0 0) walk
      ≡ 0 ∷ 0 ∷ 0 ∷ 0 ∷ 0 ∷ 1 ∷ 1 ∷ 0 ∷ 2 ∷ 0 ∷ 0 ∷ 3 ∷ 0 ∷ 4 ∷ 0 ∷ 4 ∷ 0 ∷ 0 ∷ 5 ∷ 5 ∷ 0 ∷ 8 ∷ 0 ∷ []
  pub autns : map (λ s. get_or s.answer.autn 15 0) walk
      ≡ 0 ∷ 0 ∷ 0 ∷ 0 ∷ 0 ∷ 201 ∷ 201 ∷ 0 ∷ 202 ∷ 0 ∷ 0 ∷ 203 ∷ 0 ∷ 204 ∷ 0 ∷ 0 ∷ 0 ∷ 0 ∷ 205 ∷ 0 ∷ 0 ∷ 208 ∷ 0 ∷ []
  pub cks : map (λ s. get_or s.answer.ck 0 0) walk
      ≡ 0 ∷ 0 ∷ 0 ∷ 0 ∷ 0 ∷ 0 ∷ 0 ∷ 0 ∷ 0 ∷ 102 ∷ 0 ∷ 0 ∷ 0 ∷ 0 ∷ 0 ∷ 0 ∷ 0 ∷ 0 ∷ 0 ∷ 0 ∷ 0 ∷ 0 ∷ 0 ∷ []
  pub helds : map (λ s. s.answer.vlr.held) walk
      ≡ 0 ∷ 0 ∷ 0 ∷ 2 ∷ 2 ∷ 1 ∷ 1 ∷ 1 ∷ 0 ∷ 0 ∷ 2 ∷ 1 ∷ 1 ∷ 0 ∷ 2 ∷ 2 ∷ 2 ∷ 2 ∷ 1 ∷ 1 ∷ 2 ∷ 1 ∷ 1 ∷ []
  -- the positions that have left in the end: the one at 5 was dropped
  pub gone : (told nothing_yet walk).gone
      ≡ by requested 6 ∷ by dropped 5 ∷ by requested 4 ∷ by requested 3 ∷ by requested 2 ∷ by requested 1 ∷ by requested 0 ∷ []
  pub left : unused (told nothing_yet walk) ≡ 7 ∷ []
  -- the same of the mixed queue
  pub mixed_outcomes : map (λ s. s.answer.outcome) mixed
      ≡ done ∷ done ∷ done ∷ refused 3 ∷ refused 3 ∷ done ∷ done ∷ refused 7 ∷ refused 3 ∷ passed ∷ refused 3 ∷ done ∷ done ∷ done ∷ done
      ∷ cause 1 ∷ done ∷ cause 2 ∷ []
  pub mixed_rands : map (λ s. get_or s.answer.rand 0 0) mixed
      ≡ 0 ∷ 0 ∷ 0 ∷ 0 ∷ 0 ∷ 1 ∷ 1 ∷ 0 ∷ 0 ∷ 0 ∷ 0 ∷ 2 ∷ 2 ∷ 0 ∷ 3 ∷ 0 ∷ 4 ∷ 0 ∷ []
  pub mixed_autns : map (λ s. get_or s.answer.autn 15 0) mixed
      ≡ 0 ∷ 0 ∷ 0 ∷ 0 ∷ 0 ∷ 0 ∷ 0 ∷ 0 ∷ 0 ∷ 0 ∷ 0 ∷ 202 ∷ 0 ∷ 0 ∷ 0 ∷ 0 ∷ 0 ∷ 0 ∷ []
  pub mixed_kcs : map (λ s. get_or s.answer.kc 7 0) mixed
      ≡ 0 ∷ 0 ∷ 0 ∷ 0 ∷ 0 ∷ 0 ∷ 0 ∷ 0 ∷ 0 ∷ 101 ∷ 0 ∷ 0 ∷ 0 ∷ 0 ∷ 0 ∷ 0 ∷ 0 ∷ 0 ∷ []
  pub mixed_cks : map (λ s. get_or s.answer.ck 0 0) mixed ≡ replicate 18 0
  pub mixed_gone : (told nothing_yet mixed).gone ≡ by requested 3 ∷ by requested 2 ∷ by requested 1 ∷ by requested 0 ∷ []
  -- refusal 9, and a place that is free again
  pub filled_up : map (λ s. s.answer.outcome) filling ≡ done ∷ done ∷ done ∷ refused 9 ∷ done ∷ done ∷ refused 9 ∷ refused 2 ∷ done ∷ []
  -- Store adds behind, so the older is asked first; 7 comes before 9
  pub behind : map (λ s. get_or s.answer.rand 0 0)
      (answers reply new_vlr (store vector 1 (one 1) ∷ store vector 1 (one 2) ∷ ask ∷ [])) ≡ 0 ∷ 0 ∷ 1 ∷ []
  pub full_resyncing : (node.store (record_with resyncing 16 1 0) vector 1 (one 1)).outcome ≡ refused 7
  -- refusal 1: held count, unused place, absent outstanding place; a vector may have any octets
  pub new_asked : (node.ask new_vlr).outcome ≡ refused 8
  pub many : (node.ask (record_with idle 17 1 0)).outcome ≡ refused 1
  pub unused_place : (node.ask (record_with idle 15 1 0)).outcome ≡ refused 1
  pub absent : (node.ask (record_with idle 16 1 1)).outcome ≡ refused 1
  pub absent_resyncing : (node.timeout (record_with resyncing 16 1 1)).outcome ≡ refused 1
  pub full : (node.ask (record_with idle 16 1 0)).outcome ≡ done
  pub present : (node.again (record_with asked 16 1 1)).outcome ≡ done
  -- zeros follow a triplet; a kind is 0 or 1
  pub triplet_held : (node.ask (holding 1 0)).outcome ≡ done
  pub triplet_tail : (node.ask (holding 1 9)).outcome ≡ refused 1
  pub kind_2 : (node.ask (holding 2 0)).outcome ≡ refused 1
  pub triplet_out : (node.again (asking 1 0)).outcome ≡ done
  pub triplet_out_tail : (node.again (asking 1 9)).outcome ≡ refused 1
  pub kind_2_out : (node.again (asking 2 0)).outcome ≡ refused 1

pub computed : Computed
unfolding node.store node.renew node.ask node.again node.answer node.sync node.reject node.timeout node.abandon store_refusal
    ask_refusal asked_refusal sync_refusal renew_refusal timeout_refusal unless_refused refusal_or valid_vlr good_place good_places
    all_zero count_fits batch_fits queued oldest_out none_out request res_right pass_if resync_request equal vector_run triplet_run
    read_vector write_vector read_triplet write_triplet joined answers told is_in is_unused unused_from leave
computed = record {
  outcomes = refl;
  rands = refl;
  autns = refl;
  cks = refl;
  helds = refl;
  gone = refl;
  left = refl;
  mixed_outcomes = refl;
  mixed_rands = refl;
  mixed_autns = refl;
  mixed_kcs = refl;
  mixed_cks = refl;
  mixed_gone = refl;
  filled_up = refl;
  behind = refl;
  full_resyncing = refl;
  new_asked = refl;
  many = refl;
  unused_place = refl;
  absent = refl;
  absent_resyncing = refl;
  full = refl;
  present = refl;
  triplet_held = refl;
  triplet_tail = refl;
  kind_2 = refl;
  triplet_out = refl;
  triplet_out_tail = refl;
  kind_2_out = refl;
}
