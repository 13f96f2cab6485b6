use Rattle.std.proofs.Common.{◌∙◌, sym, rules, true, false, pos, refl, get_or, SFits}
use Rattle.std.proofs.lemmas.Int.{to_z-of_z}
use Rattle.std.specs.Int.{w128}
use Rattle.suit_cards.specs.declared.seats.Seat.TheVariants.{N}
use Rattle.suit_classes.specs.declared.class_moves.ClassMove.TheVariants.{Lead}
use Rattle.suit_plans.proofs.CountOfAMove.{count_from, count_past}
use Rattle.suit_plans.proofs.counts.Counts.count_of.Goals as goal

pub returns-then-is_same : goal.returns-then-is_same
returns-then-is_same c =
    let from = count_from c.deref-count-items.result.now c.args.mv c.loop-count.count-index (
      Lead N 0,
      pos 0,
    ) true c.loop-count-test.true c.if-is_same.ensures in
    let fits : SFits w128 (get_or c.deref-count-items.result.now c.loop-count.count-index (Lead N 0, pos 0)).1 =
    search rules in
    to_z-of_z w128 (get_or c.deref-count-items.result.now c.loop-count.count-index (Lead N 0, pos 0)).1 fits ∙ sym from
    ∙ c.loop-count.invariant ∙ rw (c.deref-count-items.ensures.value, c.self.view_is) refl

pub loop-count-preserved : goal.loop-count-preserved
loop-count-preserved c =
    sym (count_from c.deref-count-items.result.now c.args.mv c.loop-count.count-index (
      Lead N 0,
      pos 0,
    ) false c.loop-count-test.true c.if-is_same.ensures) ∙ c.loop-count.invariant

pub returns : goal.returns
returns c =
    sym (count_past c.deref-count-items.result.now c.args.mv c.loop-count.count-index c.loop-count-test.false)
    ∙ c.loop-count.invariant ∙ rw (c.deref-count-items.ensures.value, c.self.view_is) refl
