-- The C interface: what each call returns, and what the octets lent to it hold at the end, for octets of any length and contents. The
-- numbers returned are those of Results. A refusal leaves the octets as they were. An image is read first: what its reading refuses is the
-- call's answer, before every other refusal. Assumes nothing: these are definitions.
use Rattle.std.specs.Prelude.{ℕ, ◌&&◌, not, cond, eqb, length}
use Rattle.std.proofs.Math.Option.{Option, none, some}
use Rattle.octets.specs.Octets.{Octets}
use Rattle.aes.specs.Cipher.{aes}
use Rattle.milenage.specs.Opc.{opc}
use Rattle.functions.specs.Sets.{is_set, sets}
use Rattle.aka.specs.Layout.{key_size, amf_size, vector_offset}
use Rattle.aka.specs.Triplets.{convert}
use Rattle.aka.specs.Usim as card
use Rattle.aka.specs.Auc as centre
use Rattle.aka.specs.Sequence.{width_of}
use Rattle.aka.specs.Editions.{editions, is_edition}
use Rattle.usim_record.specs.Views.{sqn_due}
use Rattle.usim_image.specs.Image as usim
use Rattle.auc_image.specs.Image as auc
use Rattle.interface_answers.specs.Results.{both, verdict_result, outcome_result}
use Rattle.interface_answers.specs.Answers.{has, are_keys, answer_sized, usim_image_after, auc_image_after}

-- what a call returns, and what the octets that it was lent to write to hold at its end
pub record Returned (Held : Type 0) : Type 0 where
  pub result : ℕ
  pub octets : Held

abbrev pub done : {Held : Type 0} → Held → Returned Held
done octets = record { result = 0; octets = octets }

abbrev pub refused : {Held : Type 0} → (number : ℕ) → Held → Returned Held
refused number octets = record { result = number; octets = octets }

-- ---- OPc and new images: one buffer

-- OPc of K and OP
unfoldable pub opc_call : (k op buffer : Octets) → Returned Octets
opc_call k op buffer =
    cond (not (are_keys k op && has key_size buffer)) (refused 3 buffer)
    (done (opc (aes k) op))

-- what refuses the keys of a new record, before its other parts: 0 for none
unfoldable pub new_keys_refusal : (edition set : ℕ) (k opc : Octets) → ℕ
new_keys_refusal edition set k opc =
    cond (not (is_edition edition && is_set set)) 1
    (cond (not (are_keys k opc)) 3 0)

-- a new card
unfoldable pub new_usim_call : (edition set : ℕ) (k opc buffer : Octets) → Returned Octets
new_usim_call edition set k opc buffer =
    cond (not (is_edition edition && is_set set)) (refused 1 buffer)
    (cond (not (are_keys k opc && has (usim.image_size (width_of editions edition)) buffer)) (refused 3 buffer)
    (done (usim.image editions (card.new_usim editions edition (record { set = set; k = k; opc = opc })))))

-- a new centre
unfoldable pub new_auc_call : (edition set : ℕ) (k opc amf buffer : Octets) → Returned Octets
new_auc_call edition set k opc amf buffer =
    cond (not (is_edition edition && is_set set)) (refused 1 buffer)
    (cond (not (are_keys k opc && has amf_size amf && has auc.image_size buffer)) (refused 3 buffer)
    (done (auc.image editions (centre.new_auc edition (record { set = set; k = k; opc = opc }) amf))))

-- ---- the card

-- the octets that a challenge is lent to write to
pub record UsimOctets : Type 0 where
  pub image : Octets
  pub res : Octets
  pub ck : Octets
  pub ik : Octets
  pub auts : Octets

-- a buffer gets its part of the answer unless that is a refusal
abbrev pub buffer_after : card.Verdict → (buffer part : Octets) → Octets
buffer_after card.accepted buffer part = part
buffer_after card.mac_failure buffer part = part
buffer_after card.sync_failure buffer part = part
buffer_after (card.refused number) buffer part = buffer

-- what an answer of the card comes to, with the SQN that it accepts
abbrev pub usim_returns : card.UsimAnswer → (sqn : ℕ) → UsimOctets → Returned UsimOctets
usim_returns a sqn lent = record {
  result = verdict_result a.verdict sqn;
  octets = record {
    image = usim_image_after a.verdict lent.image (usim.image editions a.usim);
    res = buffer_after a.verdict lent.res a.res;
    ck = buffer_after a.verdict lent.ck a.ck;
    ik = buffer_after a.verdict lent.ik a.ik;
    auts = buffer_after a.verdict lent.auts a.auts;
  };
}

-- a challenge of the card that an image holds
unfoldable pub challenge_call : (lent : UsimOctets) (rand autn : Octets) → Returned UsimOctets
challenge_call lent rand autn =
    let held = usim.read_answer (usim.format editions sets) lent.image in
    let answer = card.challenge editions sets held.contents rand autn in
    cond (not (eqb held.refusal 0)) (refused held.refusal lent)
    (cond (not (answer_sized lent.res lent.ck lent.ik lent.auts)) (refused 3 lent)
    (usim_returns answer (sqn_due answer.verdict held.contents rand autn) lent))

-- ---- the centre

-- the octets that an order or a resynchronisation is lent to write to
pub record AucOctets : Type 0 where
  pub image : Octets
  pub batch : Octets

-- what an answer of the centre comes to
abbrev pub auc_returns : centre.AucAnswer → (image : Octets) → Returned AucOctets
auc_returns a image = record {
  result = outcome_result a.outcome;
  octets = record { image = auc_image_after a.outcome image (auc.image editions a.auc); batch = a.batch };
}

-- the record that an image holds is asked
unfoldable pub on_image : (lent : AucOctets) → (centre.Auc → centre.AucAnswer) → Returned AucOctets
on_image lent ask =
    let held = auc.read_answer (auc.format editions sets) lent.image in
    cond (not (eqb held.refusal 0)) (refused held.refusal lent)
    (auc_returns (ask held.contents) lent.image)

abbrev pub order_call : (lent : AucOctets) (count : ℕ) (rands : Octets) → Returned AucOctets
order_call lent count rands = on_image lent (λ auc. centre.order editions sets auc count rands lent.batch)

abbrev pub resync_call : (lent : AucOctets) (count : ℕ) (rand auts rands : Octets) → Returned AucOctets
resync_call lent count rand auts rands = on_image lent (λ auc. centre.resync editions sets auc count rands lent.batch rand auts)

-- ---- where the vector at place k begins in a batch

-- an offset, or refusal 3
abbrev pub offset_result : Option ℕ → ℕ
offset_result none = 3
offset_result (some offset) = both 0 offset

unfoldable pub vector_at_call : (batch : Octets) (k : ℕ) → ℕ
vector_at_call batch k = offset_result (vector_offset (length batch) k)

-- ---- the triplets of a batch

abbrev pub triplets_call : (batch buffer : Octets) → Returned Octets
triplets_call batch buffer = let made = convert batch buffer in record { result = made.refusal; octets = made.buffer }
