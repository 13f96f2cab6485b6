use Rattle.std.proofs.Common.{◌∙◌, sym, ap, true, false, pos, int_le, get_or, SFits, rules}
use Rattle.std.proofs.lemmas.Int.{to_z-of_z}
use Rattle.std.specs.Int.{w128}
use Rattle.suit_lists.proofs.Walks.{all_from, all_past}
use Rattle.suit_cards.specs.declared.seats.Seat.TheVariants.{N}
use Rattle.suit_classes.specs.declared.class_moves.ClassMove.TheVariants.{Lead}
use Rattle.suit_plans.proofs.row_faults.are_positive.Goals as goal

pub returns-then-not-is_positive : goal.returns-then-not-is_positive
returns-then-not-is_positive c =
    let count = (get_or c.args.shares.now c.loop-count.count-index (Lead N 0, pos 0)).1 in
    let fits : SFits w128 count = search rules in
    sym (all_from (λ count. int_le (pos 0) count.1) c.args.shares.now c.loop-count.count-index (
      Lead N 0,
      pos 0,
    ) false c.loop-count-test.true (c.if-not-is_positive.ensures
    ∙ ap (int_le (pos 0)) (to_z-of_z w128 count fits)))
    ∙ c.loop-count.invariant

pub loop-count-preserved : goal.loop-count-preserved
loop-count-preserved c =
    let count = (get_or c.args.shares.now c.loop-count.count-index (Lead N 0, pos 0)).1 in
    let fits : SFits w128 count = search rules in
    sym (all_from (λ count. int_le (pos 0) count.1) c.args.shares.now c.loop-count.count-index (
      Lead N 0,
      pos 0,
    ) true c.loop-count-test.true (c.if-not-is_positive.ensures
    ∙ ap (int_le (pos 0)) (to_z-of_z w128 count fits)))
    ∙ c.loop-count.invariant

pub returns : goal.returns
returns c = sym (all_past (λ count. int_le (pos 0) count.1) c.args.shares.now c.loop-count.count-index
    c.loop-count-test.false) ∙ c.loop-count.invariant
