use Rattle.std.proofs.Common.{List, rules, subst, sym}
use Rattle.std.specs.Prelude.{option_map}
use Rattle.suit_game.proofs.LongestPlay.{histories_are_short}
use Rattle.suit_plans.specs.declared.defence.DefenceRow.{DefenceRow}
use Rattle.suit_plans.specs.Orders.{InOrder, defence_row_before}
use Rattle.suit_plans.proofs.ProperOrders.{defence_in_order}
use Rattle.suit_lift.proofs.SharesOfARow.{defence_shares}
use Rattle.suit_lift.proofs.lifts.defence_weights.Goals as goal

pub merged-line-requires : goal.merged-line-requires
merged-line-requires c =
    let play = c.requires.play in
    histories_are_short c.args.question.now c.args.west c.args.history.now play.valid.north play.valid.south
    play.valid.apart play.legal

pub defence_shares_at-row-requires : goal.defence_shares_at-row-requires
defence_shares_at-row-requires c =
    subst (λ (l : List DefenceRow). InOrder defence_row_before l) (sym c.items.ensures.value)
    (defence_in_order c.args.question.now c.args.defence.now c.requires.proper)

pub returns : goal.returns
returns c =
    defence_shares c.args.question.now c.args.defence.now c.args.west c.args.history.now
    (option_map (λ shares. shares.now) c.defence_shares_at-row.result) c.defenders_moves-moves.result.items
    c.even_shares.result.items (search rules)
    (c.defenders_moves-moves.ensures c.args.question.now c.args.history.now c.requires.play c.requires.at)
    (search rules)
