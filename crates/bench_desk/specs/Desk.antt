-- The desk: one card, one centre record and one node, and what goes between them at an order, an ask and a resync.
-- Document 01, 'The bench program'. Assumes nothing: these are definitions.
use Rattle.std.specs.Prelude.{ℕ, Option, Some, None, ◌&&◌, cond, eqb, ltb, leb}
use Rattle.octets.specs.Octets.{Octets, zeros, decode}
use Rattle.functions.specs.Sets.{sets}
use Rattle.aka.specs.Functions.{Keys}
use Rattle.aka.specs.Layout.{vector, rand_size, auts_size}
use Rattle.aka.specs.Sequence.{width_of, indices, limit}
use Rattle.aka.specs.Editions.{editions}
use Rattle.aka.specs.Usim as card
use Rattle.aka.specs.Auc as centre
use Rattle.aka.specs.Vlr as node
use Rattle.bench_writer.specs.Replies as replies

pub record Desk : Type 0 where
  pub usim : card.Usim
  pub auc : centre.Auc
  pub vlr : node.Vlr
  pub rand : Octets  -- the last AUTS with its RAND, zeros when there was none
  pub auts : Octets

-- what a step gives: the desk after it, and what is answered
pub record DeskAnswer : Type 0 where
  pub desk : Desk
  pub reply : replies.Reply

-- the edition of the bench's records (document 02, #104)
abbrev pub edition : ℕ
edition = 1

-- everything new
unfoldable pub new_desk : Keys → (amf : Octets) → Desk
new_desk keys amf = record {
  usim = card.new_usim editions edition keys;
  auc = centre.new_auc edition keys amf;
  vlr = node.new_vlr;
  rand = zeros rand_size;
  auts = zeros auts_size;
}

-- other records, and the last AUTS as it was
unfoldable pub with_records : Desk → card.Usim → centre.Auc → node.Vlr → Desk
with_records desk usim auc vlr = record { usim = usim; auc = auc; vlr = vlr; rand = desk.rand; auts = desk.auts }

-- ---- refusals

-- card, centre and node all stay as before
unfoldable pub refused_by : Desk → (number : ℕ) → DeskAnswer
refused_by desk number = record { desk = desk; reply = replies.refused number }

-- a refusal by its number, 0 being none; else what follows
unfoldable pub refused_or : Desk → (number : ℕ) → DeskAnswer → DeskAnswer
refused_or desk number rest = cond (eqb number 0) rest (refused_by desk number)

-- the number where there is a refusal
abbrev pub given_number : ℕ → Option ℕ
given_number number = cond (eqb number 0) None (Some number)

-- ---- what an order, a resync and an ask print

-- a resync prints kept or reset
unfoldable pub resync_reply : centre.Outcome → (n held : ℕ) → replies.Reply
resync_reply centre.given n held = replies.stored n held
resync_reply centre.kept n held = replies.kept n held
resync_reply centre.reset n held = replies.reset n held
resync_reply (centre.refused number) n held = replies.refused number
resync_reply (centre.repeated i j) n held = replies.refused 4

-- what the node says of RES: it passes, or has its cause. The card and the centre of a bench have the same keys, so it passes;
-- Answer never gives `done`
unfoldable pub answer_reply : node.Outcome → (sqn left : ℕ) → replies.Reply
answer_reply node.done sqn left = replies.pass sqn left
answer_reply node.passed sqn left = replies.pass sqn left
answer_reply (node.cause number) sqn left = replies.cause number
answer_reply (node.refused number) sqn left = replies.refused number

module _ (desk : Desk) where
  -- ---- order and resync: the centre first, then Store or Renew

  -- the centre's refusal before the node's; else both records go on
  unfoldable pub with_batch : centre.AucAnswer → node.VlrAnswer → replies.Reply → DeskAnswer
  with_batch a v reply =
      refused_or desk (centre.refusal_of a.outcome)
      (refused_or desk (node.refusal_of v.outcome)
      (record { desk = with_records desk desk.usim a.auc v.vlr; reply = reply }))

  -- a count, that many RANDs, and a buffer for the batch
  module _ (count : ℕ) (rands buffer : Octets) where
    unfoldable pub order_answer : centre.AucAnswer
    order_answer = centre.order editions sets desk.auc count rands buffer

    -- the vectors given go to the node
    unfoldable pub store_answer : node.VlrAnswer
    store_answer = node.store desk.vlr vector order_answer.n order_answer.batch

    unfoldable pub order : DeskAnswer
    order = with_batch order_answer store_answer (replies.stored order_answer.n store_answer.vlr.held)

    -- with the last AUTS and its RAND
    unfoldable pub resync_answer : centre.AucAnswer
    resync_answer = centre.resync editions sets desk.auc count rands buffer desk.rand desk.auts

    unfoldable pub renew_answer : node.VlrAnswer
    renew_answer = node.renew desk.vlr vector resync_answer.n resync_answer.batch

    unfoldable pub resync : DeskAnswer
    resync = with_batch resync_answer renew_answer (resync_reply resync_answer.outcome resync_answer.n renew_answer.vlr.held)

  -- ---- ask: Ask, the card's challenge, then Answer, Reject or Sync

  unfoldable pub ask_answer : node.VlrAnswer
  ask_answer = node.ask desk.vlr

  unfoldable pub card_answer : card.UsimAnswer
  card_answer = card.challenge editions sets desk.usim ask_answer.rand ask_answer.autn

  -- the SQN of the vector that was asked
  abbrev pub sqn_asked : ℕ
  sqn_asked = decode (card.sqn_in (sets.under desk.usim.keys) ask_answer.rand ask_answer.autn)

  -- the node's refusal; else the next desk
  unfoldable pub after_node : node.Outcome → (next : Desk) → replies.Reply → DeskAnswer
  after_node outcome next reply = refused_or desk (node.refusal_of outcome) (record { desk = next; reply = reply })

  -- after Answer the card's next record is kept
  unfoldable pub after_answer : node.VlrAnswer → card.Usim → (sqn : ℕ) → DeskAnswer
  after_answer v usim sqn =
      after_node v.outcome (with_records desk usim desk.auc v.vlr) (answer_reply v.outcome sqn v.vlr.held)

  unfoldable pub after_reject : node.VlrAnswer → DeskAnswer
  after_reject v = after_node v.outcome (with_records desk desk.usim desk.auc v.vlr) replies.mac

  -- Sync hands on RAND with AUTS, and the desk keeps them
  unfoldable pub after_sync : node.VlrAnswer → DeskAnswer
  after_sync v =
      after_node v.outcome
      (record { usim = desk.usim; auc = desk.auc; vlr = v.vlr; rand = v.rand; auts = v.auts })
      replies.sync

  -- 'A verdict other than acceptance ends the ask with its name .. once the node has had Sync or Reject'; of the node after Ask, the
  -- card's answer, and the SQN that was asked
  unfoldable pub on_verdict : node.Vlr → card.UsimAnswer → (sqn : ℕ) → card.Verdict → DeskAnswer
  on_verdict vlr a sqn card.accepted = after_answer (node.answer vlr a.res) a.usim sqn
  on_verdict vlr a sqn card.sync_failure = after_sync (node.sync vlr a.auts)
  on_verdict vlr a sqn card.mac_failure = after_reject (node.reject vlr)
  on_verdict vlr a sqn (card.refused number) = refused_by desk number

  unfoldable pub ask : DeskAnswer
  ask = refused_or desk (node.refusal_of ask_answer.outcome) (on_verdict ask_answer.vlr card_answer sqn_asked card_answer.verdict)

  -- ---- put: SEQ_HE and next index; past its range it is refused 1

  unfoldable pub with_counters : (seqhe next : ℕ) → Desk
  with_counters seqhe next =
      with_records desk desk.usim
      (record { edition = desk.auc.edition; keys = desk.auc.keys; amf = desk.auc.amf; seqhe = seqhe; next = next })
      desk.vlr

  unfoldable pub put : (seqhe next : ℕ) → DeskAnswer
  put seqhe next =
      let w = width_of editions desk.auc.edition in
      refused_or desk (cond (leb seqhe (limit w) && ltb next (indices w)) 0 1)
      (record { desk = with_counters seqhe next; reply = replies.put_ok })

  -- ---- show: SEQ_HE, next index, SEQ_MS, its index

  unfoldable pub show : DeskAnswer
  show = record {
    desk = desk;
    reply = replies.shown desk.auc.seqhe desk.auc.next
        (card.seq_ms desk.usim) (card.lowest_index (card.seq_ms desk.usim) desk.usim.places);
  }
