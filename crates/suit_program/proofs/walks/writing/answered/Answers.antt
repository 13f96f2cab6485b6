use Rattle.std.proofs.Common.{◌+◌, List, [], ◌∷◌, ◌++◌, get_or, pos, subst, sym, take}
use Rattle.std.proofs.lemmas.List.{take_all, take_more}
use Rattle.suit_program.specs.declared.walks.ledger.Account.{Account}
use Rattle.suit_program.specs.declared.walks.turn.LayoutMoves.{LayoutMoves}
use Rattle.suit_program.specs.Walks.Writing.{AreAnswered}
use Rattle.suit_program.proofs.lemmas.Walks.RoomToWrite.{answer_asked}
use Rattle.suit_program.proofs.lemmas.Walks.WritingByLayout.{answered_append, answered_none}
use Rattle.suit_program.proofs.walks.writing.answered.Goals as goal

abbrev nobody : Account
nobody = record { index = 0; row = 0; factor = pos 0 }

pub loop-place-init : goal.loop-place-init
loop-place-init c = λ case.
    subst (λ (l : List LayoutMoves). AreAnswered case.question case.support case.history [] c.args.ledger.now
    c.args.ledger.now l) (sym c.in_ok-answers.ensures.items)
    (answered_none case.question case.support case.history c.args.ledger.now)

pub answer-requires : goal.answer-requires
answer-requires c =
    answer_asked c.args.ledger.now c.args.reach.now c.args.accounts.now c.requires.asked c.requires.theirs
    c.loop-place.ledger c.loop-place.place nobody c.loop-place.answers.items c.loop-place-test.true
    (c.loop-place.invariant c.requires.asked)

pub loop-place-preserved : goal.loop-place-preserved
unfolding answer_asked
loop-place-preserved c = λ case.
    let accounts : List Account = c.args.accounts.now in
    let place = c.loop-place.place in
    let asked = answer_asked c.args.ledger.now c.args.reach.now accounts case c.requires.theirs c.loop-place.ledger
    place nobody c.loop-place.answers.items c.loop-place-test.true (c.loop-place.invariant case) in
    subst (λ (l : List LayoutMoves). AreAnswered case.question case.support case.history (take (place + 1) accounts)
    c.args.ledger.now c.answer.new.ledger l) (sym c.in_ok-push.ensures.items)
    (subst (λ (l : List Account). AreAnswered case.question case.support case.history l c.args.ledger.now
    c.answer.new.ledger (c.loop-place.answers.items ++ c.in_ok-next.next ∷ []))
    (sym (take_more accounts place nobody c.loop-place-test.true))
    (answered_append case.question case.support case.history (take place accounts) (get_or accounts place nobody ∷ [])
    c.args.ledger.now c.loop-place.ledger c.answer.new.ledger c.loop-place.answers.items (c.in_ok-next.next ∷ [])
    (c.loop-place.invariant case) (c.in_ok-next.ensures asked)))

pub returns : goal.returns
returns c = λ case.
    subst (λ (l : List Account). AreAnswered case.question case.support case.history l c.args.ledger.now
    c.loop-place.ledger c.loop-place.answers.items)
    (take_all c.loop-place.place c.args.accounts.now c.loop-place-test.false) (c.loop-place.invariant case)
