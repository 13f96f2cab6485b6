use Rattle.std.proofs.Common.{◌∙◌, sym, ap, subst, pos, get_or, SFits, refl, rules, ℤ, ◌-ℤ◌, ◌≤ℤ◌, int_lt, int_eq, to_z}
use Rattle.std.proofs.lemmas.Int.{to_z-of_z}
use Rattle.std.specs.Int.{w128}
use Rattle.suit_cards.specs.declared.seats.Seat.TheVariants.{N}
use Rattle.suit_classes.specs.declared.class_moves.ClassMove.TheVariants.{Lead}
use Rattle.suit_num.proofs.IntegerLaws.{int_lt-false, int_lt-true}
use Rattle.suit_plans.proofs.CountsAddUp.{added, left_count, left_first, left_last, left_next, left_too_little}
use Rattle.suit_plans.proofs.row_faults.add_up.Goals as goal

pub loop-count-init : goal.loop-count-init
loop-count-init c = left_first c.args.shares.now _ _ (search rules) refl

pub returns-then-is_more : goal.returns-then-is_more
returns-then-is_more c =
    let count = (get_or c.args.shares.now c.loop-count.count-index (Lead N 0, pos 0)).1 in
    let fits : SFits w128 count = search rules in
    let mass : SFits w128 c.args.mass = search rules in
    let above = int_lt-true _ count (sym (c.if-is_more.ensures ∙ ap (int_lt _) (to_z-of_z w128 count fits))) in
    sym (left_too_little c.args.shares.now _ c.loop-count.count-index (
      Lead N 0,
      pos 0,
    ) _ c.loop-count-test.true c.loop-count.invariant above)
    ∙ ap (int_eq (added c.args.shares.now)) (to_z-of_z w128 c.args.mass mass)

pub left_of-rest-requires-clause-positive : goal.left_of-rest-requires-clause-positive
left_of-rest-requires-clause-positive c =
    let count = (get_or c.args.shares.now c.loop-count.count-index (Lead N 0, pos 0)).1 in
    let fits : SFits w128 count = search rules in
    subst (λ (z : ℤ). pos 0 ≤ℤ z) (sym (to_z-of_z w128 count fits))
    (left_count c.args.shares.now _ c.loop-count.count-index (
      Lead N 0,
      pos 0,
    ) _ c.loop-count-test.true c.loop-count.invariant)

pub left_of-rest-requires-clause-within : goal.left_of-rest-requires-clause-within
left_of-rest-requires-clause-within c = int_lt-false _ _ (sym c.if-is_more.ensures)

pub loop-count-preserved : goal.loop-count-preserved
loop-count-preserved c =
    let count = (get_or c.args.shares.now c.loop-count.count-index (Lead N 0, pos 0)).1 in
    let fits : SFits w128 count = search rules in
    let still : SFits w128 c.left_of-rest.result = search rules in
    left_next c.args.shares.now _ c.loop-count.count-index (
      Lead N 0,
      pos 0,
    ) _ _ c.loop-count-test.true c.loop-count.invariant
    (to_z-of_z w128 c.left_of-rest.result still ∙ c.left_of-rest.ensures
    ∙ ap (λ (z : ℤ). to_z w128 c.loop-count.rest-bits -ℤ z) (to_z-of_z w128 count fits))

pub returns : goal.returns
returns c =
    let mass : SFits w128 c.args.mass = search rules in
    c.is_zero.ensures ∙ left_last c.args.shares.now _ c.loop-count.count-index _ c.loop-count-test.false
    c.loop-count.invariant
    ∙ ap (int_eq (added c.args.shares.now)) (to_z-of_z w128 c.args.mass mass)
