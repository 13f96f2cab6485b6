use Rattle.std.proofs.Common.{List, rules, subst, sym}
use Rattle.std.specs.Prelude.{option_map}
use Rattle.suit_game.proofs.LongestPlay.{histories_are_short}
use Rattle.suit_plans.specs.declared.plan.Row.{Row}
use Rattle.suit_plans.specs.Orders.{InOrder, plan_row_before}
use Rattle.suit_plans.proofs.ProperOrders.{plan_in_order}
use Rattle.suit_lift.proofs.SharesOfARow.{plan_shares}
use Rattle.suit_lift.proofs.lifts.card_weights.Goals as goal

pub merged-line-requires : goal.merged-line-requires
merged-line-requires c =
    let play = c.requires.play.1 in
    histories_are_short c.args.question.now c.requires.play.0 c.args.history.now play.valid.north play.valid.south
    play.valid.apart play.legal

pub plan_shares_at-row-requires : goal.plan_shares_at-row-requires
plan_shares_at-row-requires c =
    subst (λ (l : List Row). InOrder plan_row_before l) (sym c.items.ensures.value)
    (plan_in_order c.args.question.now c.args.plan.now c.requires.proper)

pub returns : goal.returns
returns c =
    plan_shares c.args.question.now c.args.plan.now c.args.history.now
    (option_map (λ shares. shares.now) c.plan_shares_at-row.result) c.declarers_moves-moves.result.items
    c.lowest_shares.result.items (search rules)
    (c.declarers_moves-moves.ensures c.args.question.now c.args.history.now c.requires.at) (search rules)
