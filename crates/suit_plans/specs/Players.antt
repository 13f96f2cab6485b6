-- The side that a value of the code stands for. Only private contracts cite this: no public clause speaks of players.
use Rattle.std.specs.Prelude.{ℤ}
use Rattle.suit_cards.specs.Cards.{ClassLayout}
use Rattle.suit_plans.specs.declared.player.Player.{Player}
use Rattle.suit_plans.specs.declared.player.PlayerRows.{PlayerRows}
use Rattle.suit_plans.specs.declared.player.PlayerRows.TheVariants.{Declarer, Defence}
use Rattle.suit_plans.specs.Masses.{Side, is_declarers, is_defences, plan_shares_at, defence_shares_at}
use Rattle.suit_plans.specs.Orders.{InOrder, defence_row_before, plan_row_before}

-- the side that plays by rows, sees these counts of West's, and starts with this mass
abbrev pub side_with : PlayerRows → ClassLayout → ℤ → Side
side_with (Declarer rows) counts whole =
    record { plays = is_declarers; counts = counts; shares_at = plan_shares_at rows.now; whole = whole }
side_with (Defence rows) counts whole =
    record { plays = is_defences; counts = counts; shares_at = defence_shares_at rows.now counts; whole = whole }

-- the side of a player
abbrev pub side_of : Player → Side
side_of player = side_with player.rows player.counts.now player.whole

-- its rows stand in order
abbrev pub AreOrdered : PlayerRows → Type 0
AreOrdered (Declarer rows) = InOrder plan_row_before rows.now
AreOrdered (Defence rows) = InOrder defence_row_before rows.now
