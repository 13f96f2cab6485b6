use Rattle.std.proofs.Common.{◌≡◌, ◌<◌, List, arith, get_or, length, refl, subst, sym}
use Rattle.suit_program.specs.declared.walks.reach.ReachedLayout.{ReachedLayout}
use Rattle.suit_program.proofs.lemmas.Walks.WritingInALayout.{layout_keeps, layout_room, layout_writes}
use Rattle.suit_program.proofs.walks.writing.answer.Goals as goal

pub bounds-layouts-place : goal.bounds-layouts-place
bounds-layouts-place c =
    subst (λ (l : List ReachedLayout). c.args.place < length l) (sym c.layouts.ensures) c.requires.within

pub answers-moves-requires : goal.answers-moves-requires
answers-moves-requires c = record {
  question = c.requires.question;
  support = c.requires.support;
  history = c.requires.history;
  reached = c.requires.reached;
}

pub returns-then-not-chooses : goal.returns-then-not-chooses
returns-then-not-chooses c = λ case.
    layout_keeps c.args.ledger.now c.args.reach.now c.args.place c.args.account c.index-layouts-place.result
    (subst (λ (l : List ReachedLayout). c.index-layouts-place.result
    ≡ get_or l c.args.place c.index-layouts-place.result) c.layouts.ensures c.index-layouts-place.is) case
    (record { account = c.args.account; moves = c.answers-moves.result }) c.chooses.result c.answers-moves.ensures
    c.chooses.ensures c.if-not-chooses.true refl

pub hold-requires-clause-columns : goal.hold-requires-clause-columns
hold-requires-clause-columns c =
    (layout_room c.args.ledger.now c.args.reach.now c.args.place c.args.account c.index-layouts-place.result
    (subst (λ (l : List ReachedLayout). c.index-layouts-place.result
    ≡ get_or l c.args.place c.index-layouts-place.result) c.layouts.ensures c.index-layouts-place.is) c.requires
    c.answers-moves.result.items c.chooses.result c.answers-moves.ensures c.chooses.ensures c.if-not-chooses.false).0

pub hold-requires-clause-rows : goal.hold-requires-clause-rows
hold-requires-clause-rows c =
    let room = (layout_room c.args.ledger.now c.args.reach.now c.args.place c.args.account c.index-layouts-place.result
    (subst (λ (l : List ReachedLayout). c.index-layouts-place.result
    ≡ get_or l c.args.place c.index-layouts-place.result) c.layouts.ensures c.index-layouts-place.is) c.requires
    c.answers-moves.result.items c.chooses.result c.answers-moves.ensures c.chooses.ensures c.if-not-chooses.false).1 in
    let count = c.len.ensures.value in
    omega (arith, room, count)

pub returns : goal.returns
returns c = λ case.
    layout_writes c.args.ledger.now c.args.reach.now c.args.place c.args.account c.index-layouts-place.result
    (subst (λ (l : List ReachedLayout). c.index-layouts-place.result
    ≡ get_or l c.args.place c.index-layouts-place.result) c.layouts.ensures c.index-layouts-place.is) case
    (record { account = c.in_ok-account.account; moves = c.answers-moves.result }) c.hold.new.self _
    c.chooses.result c.answers-moves.ensures c.chooses.ensures c.if-not-chooses.false c.len.ensures.value
    c.in_ok-account.ensures.opens c.in_ok-account.ensures.extends c.in_ok-account.ensures.adds
