-- The worked table, proved from the definitions. Assumes nothing.
use Prim.Native.Nat.{ℕ, ◌+◌, ◌≤◌, ◌<◌}
use mathlib.Core.Bool.{true, false, not, cond, or-true}
use mathlib.Core.List.{List}
use mathlib.Core.Path.{◌≡◌, refl, ap, ◌∙◌}
use native.Mathlib.Nat.{mod-lt}
use native.Mathlib.Omega.{arith}
use borrow.Author.Tests.{le-leb, lt-ltb}
use lib.ListN.{length}
use lib.Pow.{pow_pos}
use Rattle.octets.specs.Octets.{Octets, xor, equal, encode}
use Rattle.octets.proofs.XorLaws.{length_xor, xor_twice}
use Rattle.aka.specs.Layout.{all_zero, Autn, sqn_size, mac_size, write_autn, rand_at}
use Rattle.aka.specs.Functions.{Functions, Family, Lengths, Lawful, dummy_amf}
use Rattle.aka.specs.Sequence.{indices, limit, sqn_of}
use Rattle.aka.specs.Editions.{editions, row_of}
use Rattle.aka.specs.Usim.{Usim, UsimShaped, UsimAnswer, accepted, mac_failure, sync_failure, highest, lowest_index, all_within}
use Rattle.aka.specs.Usim.{valid_usim, fresh, mac_right, make_auts, sqn_ms}
use Rattle.aka.specs.Auc.{Auc, AucAnswer, given, kept, reset, refused, valid_auc, in_range, kept_or_reset, seq_ms_in, make_vector}
use Rattle.aka.specs.Auc.{seq_at, ind_at, after_batch, batch_from}
use Rattle.aka.specs.Demand3.{vector_seq}
use Rattle.aka.specs.Table.{Sample, Proper, Table, WorkedTable, edition, width, five, new, used, usim_with, sqn_with, asked}
use Rattle.aka.specs.Table.{asked_with, auc_with, ordered, resynced, first_seq}
use Rattle.octets.proofs.Parts.{unequal_false}
use Rattle.aka.proofs.Layouts.{AutnSized, length_autn, read_autn_lem}
use Rattle.aka.proofs.Places.{place_le, within_iff}
use Rattle.aka.proofs.Tokens.{length_sqn, autn_seq}
use Rattle.aka.proofs.Verdicts.{lengths_right_lem, mac_wrong, made_verdict, made_accepted}
use Rattle.aka.proofs.Batches.{batch_vector, length_rand}
use Rattle.aka.proofs.Outcomes.{order_given, order_past, resync_given}
use Rattle.aka.proofs.Editions.{fitting}
use Rattle.aka.proofs.Failures.{auts_is_long, auts_is_right, auts_has}

module _ (family : Family) (lawful : Lawful family) (x : Sample) (p : Proper family x) where
  abbrev F : Functions
  F = family.under x.keys

  L : Lengths F
  L = lawful.lengths edition x.keys p.admitted p.keys

  -- ---- the USIM

  new_valid : valid_usim editions family (usim_with family x new) ≡ true
  unfolding valid_usim all_within all_zero row_of
  new_valid = rw p.admitted

  used_valid : valid_usim editions family (usim_with family x used) ≡ true
  unfolding valid_usim all_within all_zero row_of
  used_valid = rw p.admitted

  verdict : (places : List ℕ) → valid_usim editions family (usim_with family x places) ≡ true
      → (seq ind : ℕ) → seq ≤ limit width → ind < indices width
      → (asked family x places seq ind).verdict ≡ cond (not (fresh places seq ind)) sync_failure accepted
  verdict places valid seq ind hq hi =
      made_verdict editions fitting family (usim_with family x places) L valid seq ind hq hi x.amf x.rand p.amf p.rand

  -- a second place that holds 10 leaves index 3 the lowest
  row7_kept : sqn_ms width (asked family x used 10 4).usim ≡ sqn_of width 10 3
  unfolding fresh highest lowest_index row_of
  row7_kept =
      ap (λ (a : UsimAnswer). sqn_ms width a.usim)
      (made_accepted editions fitting family (usim_with family x used) L used_valid 10 4 (omega arith) (omega arith)
      x.amf x.rand p.amf p.rand refl)

  module _ (mac : Octets) (hm : length mac ≡ mac_size) (ne : mac ≡ F.f1 (sqn_with family x 10 3) x.rand x.amf → ⊥) where
    abbrev sqn : Octets
    sqn = sqn_with family x 10 3

    under_ak : length sqn ≤ length (F.f5 x.rand)
    under_ak = omega (arith, L.f5 x.rand p.rand, length_sqn (sqn_of width 10 3))

    abbrev fields : Autn
    fields = record { concealed = xor sqn (F.f5 x.rand); amf = x.amf; mac = mac }

    fields_sized : AutnSized fields
    fields_sized = record {
      concealed = length_xor sqn (F.f5 x.rand) under_ak ∙ length_sqn (sqn_of width 10 3);
      amf = p.amf;
      mac = hm;
    }

    wrong : mac_right F x.rand (write_autn fields) ≡ false
    unfolding mac_right
    wrong =
        ap (λ (a : Autn). equal a.mac (F.f1 (xor a.concealed (F.f5 x.rand)) x.rand a.amf)) (read_autn_lem fields fields_sized)
        ∙ ap (λ (s : Octets). equal mac (F.f1 s x.rand x.amf)) (xor_twice sqn (F.f5 x.rand) under_ak)
        ∙ unequal_false mac (F.f1 sqn x.rand x.amf) ne

    mac_row : (asked_with family x mac used 10 3).verdict ≡ mac_failure
    mac_row =
        mac_wrong editions family (usim_with family x used) x.rand (write_autn fields) used_valid
        (lengths_right_lem x.rand (write_autn fields) p.rand (length_autn fields fields_sized)) wrong

  -- ---- the AuC

  auc_valid : (he : ℕ) → he ≤ limit width → valid_auc editions family (auc_with family x he) ≡ true
  unfolding valid_auc
  auc_valid he h = rw (p.admitted, le-leb he (limit width) h, lt-ltb x.next (indices width) p.next)

  abbrev auc : (he : ℕ) → Auc
  auc he = auc_with family x he

  order_row : (he : ℕ) → he + five ≤ limit width → (ordered family x he).outcome ≡ given
  unfolding row_of
  order_row he h =
      ap (λ (a : AucAnswer). a.outcome)
      (order_given editions family (auc he) five x.rands x.buffer (auc_valid he (omega arith)) (omega arith)
      p.rands p.buffer p.unequal_rands h)

  past_row : (he : ℕ) → he ≤ limit width → limit width < he + five → (ordered family x he).outcome ≡ refused 6
  unfolding row_of
  past_row he h past =
      order_past editions family (auc he) five x.rands x.buffer (auc_valid he h) (omega arith)
      p.rands p.buffer p.unequal_rands past

  abbrev usim100 : Usim
  usim100 = usim_with family x x.places100

  valid100 : valid_usim editions family usim100 ≡ true
  unfolding valid_usim row_of
  valid100 =
      let small = (within_iff (limit width) x.places100).1 (λ i. omega (arith, place_le x.places100 i, p.places100_highest)) in
      rw (p.admitted, small, p.places100_tail)

  shaped100 : UsimShaped editions usim100
  shaped100 = record { keys = p.keys; places = p.places100_size }

  abbrev auts : Octets
  auts = make_auts F (encode sqn_size (sqn_ms width usim100)) dummy_amf x.rand

  has : seq_ms_in width F x.rand auts ≡ 100
  has = auts_has editions fitting family usim100 L valid100 shaped100 x.rand p.rand ∙ p.places100_highest

  module _ (he : ℕ) (h : he ≤ limit width) (room : kept_or_reset he 100 five + five ≤ limit width) where
    -- SEQ_HE kept or reset
    abbrev st : ℕ
    st = kept_or_reset he 100 five

    resync_row : resynced family x he ≡ record {
      outcome = cond (in_range he 100 five) kept reset;
      n = five;
      auc = after_batch (editions.numbering edition) (auc he) st five;
      batch = batch_from editions family (auc he) st x.rands five;
    }
    unfolding row_of
    resync_row =
        resync_given editions family (auc he) five x.rands x.buffer (auc_valid he h) (omega arith)
        p.rands p.buffer p.unequal_rands x.rand auts p.rand
        (auts_is_long editions fitting family usim100 L valid100 shaped100 x.rand p.rand)
        (rw (has, auts_is_right editions fitting family usim100 L valid100 shaped100 x.rand p.rand)
        (or-true (in_range he 100 five)))
        (rw has room)
        ∙ rw has

    first_row : st ≡ 100 → first_seq family x (resynced family x he) ≡ 101
    unfolding make_vector row_of
    first_row e =
        ap (λ (a : AucAnswer). first_seq family x a) resync_row
        ∙ ap (vector_seq width F) (batch_vector editions family (auc he) L p.amf st x.rands five p.rands 0 (omega arith))
        ∙ autn_seq width (fitting.width edition) F L (seq_at st 0) (ind_at (editions.numbering edition) (auc he) 0) (omega (arith, e))
        (mod-lt _ (pow_pos width)) x.amf (rand_at x.rands 0) p.amf (length_rand x.rands five p.rands 0 (omega arith))
        ∙ omega (arith, e)

  table : Table family x
  unfolding fresh highest in_range row_of
  table = record {
    row1 = verdict new new_valid 0 0 (omega arith) (omega arith);
    row2 = verdict new new_valid 268435456 9 (omega arith) (omega arith);
    row3 = verdict new new_valid 268435457 9 (omega arith) (omega arith);
    row4 = verdict used used_valid 10 3 (omega arith) (omega arith);
    row5 = verdict used used_valid 11 3 (omega arith) (omega arith);
    row6 = verdict used used_valid 7 4 (omega arith) (omega arith);
    row7 = verdict used used_valid 10 4 (omega arith) (omega arith);
    row7_index = row7_kept;
    row8 = mac_row;
    he100 = ap (λ (a : AucAnswer). a.outcome) (resync_row 100 (omega arith) (omega arith));
    he99 = ap (λ (a : AucAnswer). a.outcome) (resync_row 99 (omega arith) (omega arith));
    he268435551 = ap (λ (a : AucAnswer). a.outcome) (resync_row 268435551 (omega arith) (omega arith));
    he268435552 = ap (λ (a : AucAnswer). a.outcome) (resync_row 268435552 (omega arith) (omega arith));
    first99 = first_row 99 (omega arith) (omega arith) refl;
    first268435552 = first_row 268435552 (omega arith) (omega arith) refl;
    he8796093022202 = order_row 8796093022202 (omega arith);
    he8796093022203 = past_row 8796093022203 (omega arith) (omega arith);
  }

pub worked_table : WorkedTable
worked_table = table
