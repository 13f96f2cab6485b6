use Rattle.std.proofs.Common.{sym, ap, true, take, length, length-take, arith, ◌≤◌}
use Rattle.suit_cards.specs.declared.seats.Seat.TheVariants.{N}
use Rattle.suit_classes.specs.declared.class_moves.ClassMove.TheVariants.{Lead}
use Rattle.suit_plans.specs.Properness.{goes_undecided}
use Rattle.suit_plans.proofs.AllowedSoFar.{undecided_last, undecided_next, undecided_on}
use Rattle.suit_plans.proofs.allowed.undecided_place.Goals as goal
use Rattle.suit_game.specs.declared.limits.TheConstants.{MOST_MOVES}

pub loop-index-init : goal.loop-index-init
loop-index-init c = record {
  at = c.start-place.ensures;
  left = ap (λ v. goes_undecided v c.args.history.now) c.start-place.ensures;
}

pub returns-then-decided : goal.returns-then-decided
returns-then-decided c =
    sym (undecided_on c.args.question.now c.args.history.now c.loop-index.index (Lead N 0) c.loop-index.place true
    c.loop-index-test.true c.loop-index.invariant c.if-decided.ensures.value)

pub loop-index-preserved : goal.loop-index-preserved
loop-index-preserved c =
    let index = c.loop-index.index in
    let short : length (take index c.args.history.now) ≤ MOST_MOVES =
    omega (arith, length-take index c.args.history.now, c.loop-index-test.true, c.requires) in
    undecided_next c.args.question.now c.args.history.now index (Lead N 0) c.loop-index.place c.step-place.result
    c.loop-index-test.true c.loop-index.invariant c.if-decided.ensures.value
    (c.step-place.ensures c.args.question.now (take index c.args.history.now) short c.loop-index.invariant.at)

pub returns : goal.returns
returns c = undecided_last c.args.question.now c.args.history.now c.loop-index.index c.loop-index.place
    c.loop-index-test.false c.loop-index.invariant
