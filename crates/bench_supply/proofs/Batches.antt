-- From both answers to what an order or a resync does. Assumes nothing.
use Prim.Native.Nat.{ℕ}
use mathlib.Core.Path.{◌≡◌, ap, ◌∙◌}
use Rattle.octets.specs.Octets.{Octets}
use Rattle.aka.specs.Layout.{vector}
use Rattle.aka.specs.Auc as centre
use Rattle.aka.specs.Vlr as node
use Rattle.bench_writer.specs.Replies.{Reply, stored}
use Rattle.bench_desk.specs.Desk.{Desk, DeskAnswer, with_batch, order_answer, store_answer, order}
use Rattle.bench_desk.specs.Desk.{resync_answer, renew_answer, resync_reply, resync}

module _ (desk : Desk) (count : ℕ) (rands buffer : Octets) {a : centre.AucAnswer} {v : node.VlrAnswer} {r : DeskAnswer} where
  pub order_is : a ≡ order_answer desk count rands buffer → v ≡ node.store desk.vlr vector a.n a.batch
      → r ≡ with_batch desk a v (stored a.n v.vlr.held) → r ≡ order desk count rands buffer
  unfolding order store_answer
  order_is e f g =
      g
      ∙ ap (told a) f
      ∙ ap (λ (x : centre.AucAnswer). told x (node.store desk.vlr vector x.n x.batch)) e
    where
      told : centre.AucAnswer → node.VlrAnswer → DeskAnswer
      told x y = with_batch desk x y (stored x.n y.vlr.held)

  pub resync_is : {reply : Reply} → a ≡ resync_answer desk count rands buffer → v ≡ node.renew desk.vlr vector a.n a.batch
      → reply ≡ resync_reply a.outcome a.n v.vlr.held → r ≡ with_batch desk a v reply → r ≡ resync desk count rands buffer
  unfolding resync renew_answer
  resync_is e f h g =
      g
      ∙ ap (with_batch desk a v) h
      ∙ ap (told a) f
      ∙ ap (λ (x : centre.AucAnswer). told x (node.renew desk.vlr vector x.n x.batch)) e
    where
      told : centre.AucAnswer → node.VlrAnswer → DeskAnswer
      told x y = with_batch desk x y (resync_reply x.outcome x.n y.vlr.held)
