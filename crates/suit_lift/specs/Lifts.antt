-- The lift of a plan and of a defence: how their rows over classes play single cards.
use Rattle.std.specs.Prelude.{ℕ, ◌*◌, ◌/◌, ◌==◌, not, Bool, false, List, [], ◌∷◌, length, map, filter, Option, Some}
use Rattle.std.specs.Prelude.{None, if◌then◌else◌, ℤ, pos}
use Rattle.std.specs.List.{list_all}
use Rattle.suit_cards.specs.Cards.{Cards}
use Rattle.suit_game.specs.declared.question.Question.{Question}
use Rattle.suit_game.specs.declared.moves.Move.{Move}
use Rattle.suit_game.specs.Histories.{History}
use Rattle.suit_game.specs.Positions.{legal}
use Rattle.suit_game.specs.Strategies.{Way, DefenceWay, counted, same_move}
use Rattle.suit_classes.specs.declared.class_moves.ClassMove.{ClassMove}
use Rattle.suit_classes.specs.WhatIsAllowed.{is_among}
use Rattle.suit_classes.specs.Classes.{Hands, hands_of}
use Rattle.suit_classes.specs.ClassGame.{counts_of}
use Rattle.suit_classes.specs.ClassMoves.{merge, merged, same_class_move}
use Rattle.suit_plans.specs.declared.plan.Plan.{Plan}
use Rattle.suit_plans.specs.declared.defence.Defence.{Defence}
use Rattle.suit_plans.specs.Masses.{count_of, defence_shares_at, is_first, plan_shares_at}
use Rattle.suit_lift.specs.declared.card_share.CardShare.{CardShare}

-- the counts of a row at a class history, where there is a row
abbrev pub RowCounts : Type 0
RowCounts = Option (List (ClassMove × ℤ))

-- the count of a class move, and nothing without a row
abbrev pub row_count : RowCounts → ClassMove → ℕ
row_count (Some counts) move = counted (count_of counts move)
row_count None move = 0

-- the share of a class move among those that the legal moves merge to: its count, and where none of them has one, 1
-- for the first
abbrev pub class_share : RowCounts → List ClassMove → ClassMove → ℕ
class_share row moves move =
    if list_all (λ other. row_count row other == 0) moves then (if is_first moves move then 1 else 0)
    else row_count row move

-- whether a move is the last of some that merges as it does: ranks fall, so that its card is the lowest of its class
-- in the hand
unfoldable pub is_lowest : Hands → List Move → Move → Bool
is_lowest hands [] move = false
is_lowest hands (first ∷ later) move =
    if same_move first move then not (is_among (map (merge hands) later) (merge hands move))
    else is_lowest hands later move

-- those of some moves that merge to a class move
unfoldable pub fellows : Hands → List Move → ClassMove → List Move
fellows hands moves class = filter (λ move. same_class_move (merge hands move) class) moves

-- declarer's row gives its count to the lowest card of each class in each hand
abbrev pub lowest_share : Hands → RowCounts → List Move → Move → CardShare
lowest_share hands row moves move = record {
  mv = move;
  count = pos (if is_lowest hands moves move then class_share row (map (merge hands) moves) (merge hands move) else 0);
  among = 1;
}

-- the defenders' row divides its count evenly among the cards of each class that the hand holds
abbrev pub even_share : Hands → RowCounts → List Move → Move → CardShare
even_share hands row moves move = record {
  mv = move;
  count = pos (class_share row (map (merge hands) moves) (merge hands move));
  among = length (fellows hands moves (merge hands move));
}

-- what a plan gives to a move after a history; declarer's moves are the same under all layouts
unfoldable pub plan_share : Question → Plan → History → Move → CardShare
plan_share question plan history move =
    lowest_share (hands_of question) (plan_shares_at plan.rows (merged (hands_of question) history))
    (legal question [] history) move

-- what a defence gives to a move after a history, under a layout
unfoldable pub defence_share : Question → Defence → Cards → History → Move → CardShare
defence_share question defence west history move =
    even_share (hands_of question)
    (defence_shares_at defence.rows (counts_of (hands_of question) west) (merged (hands_of question) history))
    (legal question west history) move

-- a number that each number of cards up to thirteen divides
unfoldable pub common : ℕ
common = 360360

-- a share over the common multiple
abbrev pub weight_of_share : CardShare → ℕ
weight_of_share share = common / share.among * counted share.count

-- the lift of a plan: a way to play single cards
unfoldable pub plan_way : Question → Plan → Way
plan_way question plan history move = weight_of_share (plan_share question plan history move)

-- the lift of a defence
unfoldable pub defence_way : Question → Defence → DefenceWay
defence_way question defence west history move = weight_of_share (defence_share question defence west history move)
