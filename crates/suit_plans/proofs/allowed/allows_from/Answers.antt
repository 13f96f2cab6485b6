use Rattle.std.proofs.Common.{◌∙◌, sym, ap, false, take}
use Rattle.suit_cards.specs.declared.seats.Seat.TheVariants.{N}
use Rattle.suit_classes.specs.declared.class_moves.ClassMove.TheVariants.{Lead}
use Rattle.suit_classes.specs.WhatIsAllowed.{allows_from}
use Rattle.suit_classes.specs.declared.class_view.ClassView.{ClassView}
use Rattle.suit_plans.proofs.AllowedSoFar.{start_allows, walk_first, walk_last, walk_next, walk_on, walked_short}
use Rattle.suit_plans.proofs.allowed.allows_from.Goals as goal

pub loop-index-init : goal.loop-index-init
loop-index-init c = λ start. walk_first start.question c.args.counts.now c.args.history.now c.args.start.now
    (start_allows start.question c.args.counts.now start.valid start.weighs) start.first

pub returns-then-not-has_move : goal.returns-then-not-has_move
returns-then-not-has_move c =
    let start = c.requires in
    walk_on start.question c.args.counts.now c.args.history.now c.loop-index.index (Lead N 0) c.loop-index.place false
    c.loop-index-test.true (c.loop-index.invariant start) c.if-not-has_move.ensures
    ∙ sym (ap (λ (v : ClassView). allows_from c.args.counts.now v c.args.history.now) start.first)

pub loop-index-preserved : goal.loop-index-preserved
loop-index-preserved c = λ start.
    let walk = c.loop-index.invariant start in
    let short = walked_short start.question c.args.counts.now c.args.history.now c.loop-index.index c.loop-index.place
    walk in
    walk_next start.question c.args.counts.now c.args.history.now c.loop-index.index (Lead N 0) c.loop-index.place
    c.step-place.result c.loop-index-test.true walk c.if-not-has_move.ensures
    (c.step-place.ensures start.question (take c.loop-index.index c.args.history.now) short walk.at)

pub returns : goal.returns
returns c =
    let start = c.requires in
    walk_last start.question c.args.counts.now c.args.history.now c.loop-index.index c.loop-index.place
    c.loop-index-test.false (c.loop-index.invariant start)
    ∙ sym (ap (λ (v : ClassView). allows_from c.args.counts.now v c.args.history.now) start.first)
