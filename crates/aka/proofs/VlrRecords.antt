-- Valid records of the VLR, and the records that follow: places queued, the oldest outstanding, none outstanding. Assumes nothing.
use Prim.Native.Nat.{ℕ, suc, ◌+◌, ◌-◌, ◌*◌, ◌≤◌, ◌<◌}
use mathlib.Core.Bool.{Bool, true, false, ◌&&◌, cond, and-eq-true_iff}
use mathlib.Core.List.{◌++◌}
use mathlib.Core.Logic.{◌↔◌}
use mathlib.Core.Path.{◌≡◌, refl, ap, ◌∙◌, subst}
use native.Mathlib.Omega.{arith}
use borrow.Author.Tests.{leb-true, le-leb, ltb-true, ltb-false}
use lib.Dec.{leb, ltb}
use lib.ListN.{length, get_or, take, drop, length-take, length-drop, length-append}
use lib.Seq.{drop-append-le, drop-drop}
use Rattle.octets.specs.Octets.{Octets, zeros, part}
use Rattle.octets.proofs.Absurd.{zero_not_one}
use Rattle.aka.specs.Vlr.{Vlr, State, idle, asked, resyncing, is_asked, most_held, place_size, empty_queue, new_vlr, all_zero, valid_vlr}
use Rattle.aka.specs.Vlr.{place_at, good_place, good_places, queued, oldest_out, none_out}
use Rattle.aka.specs.VlrLaws.{VlrShaped, Good, Left}
use Rattle.aka.proofs.VlrPlaces.{good_iff, good_each}
use Rattle.aka.proofs.Held.{all_zeros, length_zeros, zero_append, zero_drop, zero_each, each_zero, zero_from, part_before}
use Rattle.aka.proofs.Held.{length_written, written_before, written_behind, written_zero}

-- ---- a valid record

-- the test of the outstanding place, by the state
out_good : (s : State) (g z : Bool) → cond (is_asked s) g z ≡ true → s ≡ asked → g ≡ true
out_good idle g z e is = zero_not_one (cc)
out_good asked g z e is = e
out_good resyncing g z e is = zero_not_one (cc)

out_zero : (s : State) (g z : Bool) → cond (is_asked s) g z ≡ true → (s ≡ asked → ⊥) → z ≡ true
out_zero idle g z e other = e
out_zero asked g z e other = absurd (other refl)
out_zero resyncing g z e other = e

out_right : (s : State) (g z : Bool) → (s ≡ asked → g ≡ true) → ((s ≡ asked → ⊥) → z ≡ true) → cond (is_asked s) g z ≡ true
out_right idle g z in_use absent = absent (λ e. zero_not_one (cc))
out_right asked g z in_use absent = in_use refl
out_right resyncing g z in_use absent = absent (λ e. zero_not_one (cc))

pub record Valid (vlr : Vlr) : Type 0 where
  pub held : vlr.held ≤ most_held
  pub good : (k : ℕ) → k < vlr.held → good_place (place_at vlr.queue k) ≡ true
  pub unused : all_zero (drop (place_size * vlr.held) vlr.queue) ≡ true
  pub out : vlr.state ≡ asked → good_place vlr.out ≡ true
  pub absent : (vlr.state ≡ asked → ⊥) → all_zero vlr.out ≡ true

pub valid_true : (vlr : Vlr) → valid_vlr vlr ≡ true → Valid vlr
unfolding valid_vlr
valid_true vlr e =
    let few = leb vlr.held most_held in
    let places = good_places vlr.queue vlr.held in
    let rest = all_zero (drop (place_size * vlr.held) vlr.queue) in
    let in_use = good_place vlr.out in
    let absent = all_zero vlr.out in
    let all = (and-eq-true_iff (few && places && rest) (cond (is_asked vlr.state) in_use absent)).0 e in
    let three = (and-eq-true_iff (few && places) rest).0 all.0 in
    let two = (and-eq-true_iff few places).0 three.0 in
    record {
      held = leb-true vlr.held most_held two.0;
      good = (good_each vlr.queue vlr.held).0 two.1;
      unused = three.1;
      out = out_good vlr.state in_use absent all.1;
      absent = out_zero vlr.state in_use absent all.1;
    }

pub true_valid : (vlr : Vlr) → Valid vlr → valid_vlr vlr ≡ true
unfolding valid_vlr
true_valid vlr v =
    rw (le-leb vlr.held most_held v.held, (good_each vlr.queue vlr.held).1 v.good, v.unused)
    (out_right vlr.state (good_place vlr.out) (all_zero vlr.out) v.out v.absent)

pub valid_iff : (vlr : Vlr) → (valid_vlr vlr ≡ true)
    ↔ ((vlr.held ≤ most_held) × ((k : ℕ) → k < vlr.held → Good (place_at vlr.queue k))
    × ((i : ℕ) → place_size * vlr.held ≤ i → get_or vlr.queue i 0 ≡ 0)
    × (vlr.state ≡ asked → Good vlr.out)
    × ((vlr.state ≡ asked → ⊥) → (i : ℕ) → get_or vlr.out i 0 ≡ 0))
valid_iff vlr = (
  λ e.
      let v = valid_true vlr e in (
        v.held,
        λ k lt. (good_iff (place_at vlr.queue k)).0 (v.good k lt),
        (zero_from (place_size * vlr.held) vlr.queue).0 v.unused,
        λ is. (good_iff vlr.out).0 (v.out is),
        λ other. zero_each vlr.out (v.absent other),
      ),
  λ h. true_valid vlr (record {
    held = h.0;
    good = λ k lt. (good_iff (place_at vlr.queue k)).1 (h.1 k lt);
    unused = (zero_from (place_size * vlr.held) vlr.queue).1 h.2;
    out = λ is. (good_iff vlr.out).1 (h.3 is);
    absent = λ other. each_zero vlr.out (h.4 other);
  }),
)

pub new_valid : Valid new_vlr
new_valid = record {
  held = omega arith;
  good = λ k lt. absurd (omega arith);
  unused = zero_drop (place_size * 0) empty_queue (all_zeros (place_size * most_held));
  out = λ is. zero_not_one (cc);
  absent = λ other. all_zeros place_size;
}

pub new_shaped : VlrShaped new_vlr
new_shaped = record { queue = length_zeros (place_size * most_held); out = length_zeros place_size }

-- ---- places queued behind those in use

pub record Fits (vlr : Vlr) (count : ℕ) (places : Octets) : Type 0 where
  pub shaped : VlrShaped vlr
  pub size : length places ≡ place_size * count
  pub good : (k : ℕ) → k < count → good_place (place_at places k) ≡ true
  pub room : vlr.held + count ≤ most_held

module _ (vlr : Vlr) (count : ℕ) (places : Octets) (f : Fits vlr count places) where
  abbrev start : ℕ
  start = place_size * vlr.held

  inside : start + length places ≤ length vlr.queue
  inside = let a = f.shaped.queue in let b = f.size in let c = f.room in omega arith

  pub queued_before : (k : ℕ) → k < vlr.held → place_at (queued vlr count places).queue k ≡ place_at vlr.queue k
  unfolding queued
  queued_before k h = written_before start places vlr.queue inside (place_size * k) place_size (omega arith)

  pub queued_behind : (k : ℕ) → k < count → place_at (queued vlr count places).queue (vlr.held + k) ≡ place_at places k
  unfolding queued
  queued_behind k h =
      let at : place_size * (vlr.held + k) ≡ start + place_size * k = omega arith in
      ap (λ (n : ℕ). part n place_size (queued vlr count places).queue) at
      ∙ written_behind start places vlr.queue inside (place_size * k) place_size (let b = f.size in omega arith)

  queued_good : Valid vlr → (k : ℕ) → k < vlr.held + count → good_place (place_at (queued vlr count places).queue k) ≡ true
  queued_good v k lt = go (ltb k vlr.held) refl
    where
      go : (b : Bool) → ltb k vlr.held ≡ b → good_place (place_at (queued vlr count places).queue k) ≡ true
      go true e = let below = ltb-true k vlr.held e in ap good_place (queued_before k below) ∙ v.good k below
      go false e =
          let past_held = ltb-false k vlr.held e in
          let j = k - vlr.held in
          let at : k ≡ vlr.held + j = omega arith in
          ap (λ (n : ℕ). good_place (place_at (queued vlr count places).queue n)) at
          ∙ ap good_place (queued_behind j (omega arith))
          ∙ f.good j (omega arith)

  pub queued_valid : Valid vlr → Valid (queued vlr count places)
  unfolding queued
  queued_valid v =
      let at : start + length places ≡ place_size * (vlr.held + count) = let b = f.size in omega arith in
      record {
        held = f.room;
        good = queued_good v;
        unused = subst (λ (n : ℕ). all_zero (drop n (queued vlr count places).queue) ≡ true) at
            (written_zero start places vlr.queue inside v.unused);
        out = v.out;
        absent = v.absent;
      }

  pub queued_shaped : VlrShaped (queued vlr count places)
  unfolding queued
  queued_shaped = record { queue = length_written start places vlr.queue inside ∙ f.shaped.queue; out = f.shaped.out }

-- ---- the oldest outstanding

module _ (vlr : Vlr) (s : VlrShaped vlr) where
  abbrev left : Octets
  left = drop place_size vlr.queue

  length_left : length left ≡ place_size * 15
  length_left = length-drop place_size vlr.queue ∙ (let a = s.queue in omega arith)

  pub oldest_first : (oldest_out vlr).out ≡ place_at vlr.queue 0
  unfolding oldest_out
  oldest_first = refl

  pub oldest_rest : (k : ℕ) → suc k < most_held → place_at (oldest_out vlr).queue k ≡ place_at vlr.queue (suc k)
  unfolding oldest_out
  oldest_rest k h =
      let at : place_size + place_size * k ≡ place_size * suc k = omega arith in
      part_before (place_size * k) place_size left (zeros place_size) (rw length_left (omega arith))
      ∙ ap (take place_size) (drop-drop (place_size * k) place_size vlr.queue)
      ∙ ap (λ (n : ℕ). part n place_size vlr.queue) at

  pub oldest_valid : 0 < vlr.held → Valid vlr → Valid (oldest_out vlr)
  unfolding oldest_out
  oldest_valid h v =
      let n = place_size * (vlr.held - 1) in
      let at : place_size + n ≡ place_size * vlr.held = omega arith in
      let most = v.held in
      let is : drop n (left ++ zeros place_size) ≡ drop (place_size * vlr.held) vlr.queue ++ zeros place_size
      = drop-append-le n left (zeros place_size) (rw length_left (omega arith))
      ∙ ap (λ (x : Octets). x ++ zeros place_size) (drop-drop n place_size vlr.queue ∙ ap (λ (m : ℕ). drop m vlr.queue) at) in
      record {
        held = omega arith;
        good = λ k lt. ap good_place (oldest_rest k (omega arith)) ∙ v.good (suc k) (omega arith);
        unused = ap all_zero is
            ∙ zero_append (drop (place_size * vlr.held) vlr.queue) (zeros place_size) v.unused (all_zeros place_size);
        out = λ is. v.good 0 h;
        absent = λ other. absurd (other refl);
      }

  pub oldest_shaped : VlrShaped (oldest_out vlr)
  unfolding oldest_out
  oldest_shaped = record {
    queue = length-append left (zeros place_size) ∙ rw length_left;
    out = length-take place_size vlr.queue ∙ (let a = s.queue in omega arith);
  }

-- ---- none outstanding

module _ (to : State) (vlr : Vlr) where
  pub none_left : Left to vlr (none_out to vlr)
  unfolding none_out
  none_left = record { state = refl; out = refl; held = refl; queue = refl }

  pub none_shaped : VlrShaped vlr → VlrShaped (none_out to vlr)
  unfolding none_out
  none_shaped s = record { queue = s.queue; out = length_zeros place_size }

  pub none_valid : (to ≡ asked → ⊥) → Valid vlr → Valid (none_out to vlr)
  unfolding none_out
  none_valid left v = record {
    held = v.held;
    good = v.good;
    unused = v.unused;
    out = λ is. absurd (left is);
    absent = λ other. all_zeros place_size;
  }
