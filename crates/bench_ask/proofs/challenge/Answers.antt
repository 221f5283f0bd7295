-- The card's answer is to the challenge that was asked, and goes on by its verdict.
use Rattle.std.proofs.Common.{refl}
use Rattle.usim_record.specs.Views.{answer_of}
use Rattle.vlr_record.specs.Views.{vlr_of}
use Rattle.bench_desk.specs.Desk.{sqn_asked}
use Rattle.bench_desk.specs.Views.{desk_of}
use Rattle.bench_ask.proofs.Verdicts.{card_is, sqn_is, follows, on}
use Rattle.bench_ask.proofs.challenge.Goals as goal

pub returns-in_default : goal.returns-in_default
returns-in_default c =
    let desk = desk_of c.args.desk in
    follows desk c.requires (card_is desk c.requires c.challenge-answer.ensures.answer) (c.failure.ensures (sqn_asked desk)) refl

pub returns : goal.returns
returns c =
    let desk = desk_of c.args.desk in
    let accepted = c.in-Accepted.is in
    follows desk c.requires (card_is desk c.requires c.challenge-answer.ensures.answer)
    (on desk (vlr_of c.args.request.vlr) (answer_of c.challenge-answer.result) _ accepted c.response.ensures)
    (sqn_is desk c.requires accepted c.challenge-answer.ensures.sqn.0)
