-- `put` is the layout of a vector, put into a batch.
use Rattle.std.proofs.Common.{ℕ, ◌+◌, ◌++◌, ◌≡◌, length, take, drop, refl, sym, ap₂, ◌∙◌, append_assoc, arith, rules}
use lib.ListN.{take-append-drop}
use Rattle.octets.specs.Octets.{Octets}
use Rattle.octets.proofs.PartByPart.{filled, put_next}
use Rattle.aka.specs.Layout.{rand_size, res_size, ck_size, ik_size, autn_size, xres_at, ck_at, ik_at, autn_at, vector_size, write_vector}
use Rattle.batches.proofs.vectors.Vector.put.Goals as goal

regroup : (z a b c d e : Octets) → ((((z ++ a) ++ b) ++ c) ++ d) ++ e ≡ z ++ (a ++ (b ++ (c ++ (d ++ e))))
regroup z a b c d e = simp append_assoc

-- part by part: what stands in front is filled, what stands behind stays
pub returns : goal.returns
unfolding write_vector
returns c =
    let a = c.args in
    let v = a.self.now in
    let d = a.batch.now in
    let front = take a.at d in
    let rand_long : length v.rand ≡ rand_size = search rules in
    let xres_long : length v.xres ≡ res_size = search rules in
    let ck_long : length v.ck ≡ ck_size = search rules in
    let ik_long : length v.ik ≡ ik_size = search rules in
    let autn_long : length v.autn ≡ autn_size = search rules in
    let ck_from : a.at + xres_at + res_size ≡ a.at + ck_at = omega arith in
    let ik_from : a.at + ck_at + ck_size ≡ a.at + ik_at = omega arith in
    let autn_from : a.at + ik_at + ik_size ≡ a.at + autn_at = omega arith in
    let end : a.at + autn_at + autn_size ≡ a.at + vector_size = omega arith in
    let same1 = c.put.auto.buffer in
    let same2 = c.put-2.auto.buffer ∙ same1 in
    let same3 = c.put-3.auto.buffer ∙ same2 in
    let same4 = c.put-4.auto.buffer ∙ same3 in
    let same5 = c.put-5.auto.buffer ∙ same4 in
    let none = filled d front a.at (sym (take-append-drop a.at d)) refl (omega arith) in
    let one = put_next v.rand rand_size none (rw rand_long at c.put.ensures) same1 (omega arith) in
    let two = rw ck_from at (put_next v.xres res_size one (rw xres_long at c.put-2.ensures) same2 (omega arith)) in
    let three = rw ik_from at (put_next v.ck ck_size two (rw ck_long at c.put-3.ensures) same3 (omega arith)) in
    let four = rw autn_from at (put_next v.ik ik_size three (rw ik_long at c.put-4.ensures) same4 (omega arith)) in
    let five = put_next v.autn autn_size four (rw autn_long at c.put-5.ensures) same5 (omega arith) in
    five.is ∙ ap₂ (λ (l : Octets) (m : ℕ). l ++ drop m d) (regroup front v.rand v.xres v.ck v.ik v.autn) end
