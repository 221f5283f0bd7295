-- `decide` keeps SEQ_HE in range, and otherwise verifies MAC-S and resets it.
use Rattle.std.proofs.Common.{ℕ, Bool, true, false, not, ◌/◌, ◌≤◌, ◌≡◌, refl, sym, ap, ap₂, ◌∙◌, subst, arith}
use Rattle.octets.specs.Octets.{Octets, decode}
use Rattle.functions.specs.Challenge.{keys_of}
use Rattle.functions.specs.Sets.{sets}
use Rattle.aka.specs.Sequence.{FitsSqn, width_of, indices, limit}
use Rattle.aka.specs.Editions.{editions}
use Rattle.aka.specs.Functions.{Functions}
use Rattle.aka.specs.Auc.{in_range, mac_s_right, seq_ms_in}
use Rattle.aka.proofs.Editions.{fitting, limit_below}
use Rattle.aka.proofs.Sequence.{seq_le}
use Rattle.resynchronisation.specs.Rulings.{Follows}
use Rattle.resynchronisation.specs.declared.Ruling.TheVariants.{Reset}
use Rattle.resynchronisation.proofs.decide.Goals as goal

-- the SEQ of 48 bits is within its limit
within : (edition number n : ℕ) → n ≡ indices (width_of editions edition) → FitsSqn number → number / n ≤ limit (width_of editions edition)
within edition number n e fits =
    subst (λ (k : ℕ). number / k ≤ limit (width_of editions edition)) (sym e)
    (seq_le (width_of editions edition) (fitting.width edition) number fits)

pub in_range-requires : goal.in_range-requires
in_range-requires c =
    let below = limit_below c.args.edition in
    let seq = within c.args.edition c.sqn_number.result c.row-m.result.indices c.row-m.ensures.indices.number c.sqn_number.ensures.1 in
    (c.requires.0, omega (arith, below), omega (arith, below))

-- out of range SEQ_HE is reset to SEQ_MS, or would be where MAC-S is wrong
resets : (edition ms seqhe n : ℕ) (F : Functions) (rand auts : Octets) (right : Bool)
    → ms ≡ seq_ms_in (width_of editions edition) F rand auts → false ≡ in_range seqhe ms n → mac_s_right F rand auts ≡ right
    → ms ≤ limit (width_of editions edition) → Follows (width_of editions edition) F rand auts seqhe n (not right) (Reset ms)
resets edition ms seqhe n F rand auts right ms_is out mac within =
    let reset : in_range seqhe (seq_ms_in (width_of editions edition) F rand auts) n ≡ false
    = ap (λ (m : ℕ). in_range seqhe m n) (sym ms_is) ∙ sym out in
    record { refused = rw reset (ap not mac); kept = sym reset; from = rw reset ms_is; within = within }

pub returns-then-mac_s_right : goal.returns-then-mac_s_right
returns-then-mac_s_right c =
    let a = c.args in
    let F = sets.under (keys_of a.keys.now.keys) in
    let sqn_is = c.sqn_ms-sqn.ensures (keys_of a.keys.now.keys) a.rand c.prepare-prepared.ensures in
    let ms_is = ap₂ (λ (x n : ℕ). x / n) (c.sqn_number.ensures.0 ∙ ap decode sqn_is) c.row-m.ensures.indices.number in
    let right = c.mac_s_right.ensures (keys_of a.keys.now.keys) a.rand c.prepare-prepared.ensures sqn_is in
    let fits = within a.edition c.sqn_number.result c.row-m.result.indices c.row-m.ensures.indices.number c.sqn_number.ensures.1 in
    resets a.edition (c.sqn_number.result / c.row-m.result.indices) a.seqhe a.n F a.rand a.auts true ms_is c.if-in_range.ensures
    (sym right ∙ c.if-mac_s_right.true) fits

pub returns-else-mac_s_right : goal.returns-else-mac_s_right
returns-else-mac_s_right c =
    let a = c.args in
    let F = sets.under (keys_of a.keys.now.keys) in
    let sqn_is = c.sqn_ms-sqn.ensures (keys_of a.keys.now.keys) a.rand c.prepare-prepared.ensures in
    let ms_is = ap₂ (λ (x n : ℕ). x / n) (c.sqn_number.ensures.0 ∙ ap decode sqn_is) c.row-m.ensures.indices.number in
    let right = c.mac_s_right.ensures (keys_of a.keys.now.keys) a.rand c.prepare-prepared.ensures sqn_is in
    let fits = within a.edition c.sqn_number.result c.row-m.result.indices c.row-m.ensures.indices.number c.sqn_number.ensures.1 in (
      resets a.edition (c.sqn_number.result / c.row-m.result.indices) a.seqhe a.n F a.rand a.auts false ms_is c.if-in_range.ensures
          (sym right ∙ c.if-mac_s_right.false) fits,
      refl,
    )
