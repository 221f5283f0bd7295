-- A call of the VLR, with what is lent to it, and the VLR's answer: the nine operations as one. Assumes nothing.
use Rattle.std.specs.Prelude.{ℕ}
use Rattle.octets.specs.Octets.{Octets}
use Rattle.aka.specs.Layout.{Kind}
use Rattle.aka.specs.Vlr.{Vlr, VlrAnswer}
use Rattle.aka.specs.Vlr as node

pub data Call : Type 0 where
  store renew : (kind : Kind) (count : ℕ) (batch : Octets) → Call
  ask again : Call
  answer : (res : Octets) → Call
  sync : (auts : Octets) → Call
  reject timeout abandon : Call

abbrev pub reply : Vlr → Call → VlrAnswer
reply vlr (store kind count batch) = node.store vlr kind count batch
reply vlr (renew kind count batch) = node.renew vlr kind count batch
reply vlr ask = node.ask vlr
reply vlr again = node.again vlr
reply vlr (answer res) = node.answer vlr res
reply vlr (sync auts) = node.sync vlr auts
reply vlr reject = node.reject vlr
reply vlr timeout = node.timeout vlr
reply vlr abandon = node.abandon vlr
