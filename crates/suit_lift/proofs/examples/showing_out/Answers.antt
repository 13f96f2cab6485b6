use Rattle.std.proofs.Common.{refl}
use Rattle.suit_cards.specs.Holdings.{suit}
use Rattle.suit_game.specs.Question.{plain}
use Rattle.suit_game.specs.Positions.{without, legal_in, step_in}
use Rattle.suit_classes.specs.WhatIsAllowed.{is_among}
use Rattle.suit_classes.specs.Classes.{class_below}
use Rattle.suit_plans.specs.Masses.{count_of, plan_shares_at, defence_shares_at}
use Rattle.suit_plans.specs.Orders.{same_class_history}
use Rattle.suit_lift.specs.Examples.{seven_tricks, no_plan, no_defence, three_gaps, upper_or_lower, nothing_named}
use Rattle.suit_lift.specs.Examples.{from_either}
use Rattle.suit_lift.specs.Lifts.{is_lowest, fellows, plan_share, defence_share}
use Rattle.suit_lift.proofs.examples.showing_out.Goals as goal

pub returns : goal.returns
unfolding suit plain without legal_in step_in is_among class_below count_of plan_shares_at defence_shares_at
    same_class_history seven_tricks no_plan no_defence three_gaps upper_or_lower nothing_named from_either is_lowest
    fellows plan_share defence_share
returns c = refl
