-- Of which class histories a plan is told, and what it does there.
use Rattle.std.specs.Prelude.{◌&&◌, not, nat_lt, Bool, List, [], ◌∷◌, ◌++◌, length, map, filter, ℤ, pos, int_lt}
use Rattle.suit_game.specs.declared.question.Question.{Question}
use Rattle.suit_classes.specs.declared.class_moves.ClassMove.{ClassMove}
use Rattle.suit_classes.specs.ClassMoves.{ClassHistory}
use Rattle.suit_classes.specs.ClassPlaces.{class_after, class_decided, class_turn}
use Rattle.suit_plans.specs.BestReplies.{public_moves}
use Rattle.suit_plans.specs.Masses.{Shares, is_declarers, plan_mass}
use Rattle.suit_plans.specs.declared.plan.Plan.{Plan}
use Rattle.suit_lines.specs.Histories.{class_histories}

-- whether a plan is told of a class history: play is not decided there, declarer is on turn with two moves or more, and
-- the plan lets some mass through to it
abbrev pub is_told : Question → Plan → ClassHistory → Bool
is_told question plan history =
    not (class_decided (class_after question history))
    && is_declarers (class_turn (class_after question history))
    && nat_lt 1 (length (public_moves question history))
    && int_lt (pos 0) (plan_mass question plan history)

-- the class histories of which a plan is told, in their order
unfoldable pub told_histories : Question → Plan → List ClassHistory
told_histories question plan = filter (is_told question plan) (class_histories question)

-- whether a move has some of the mass
abbrev pub is_live : ClassMove × ℤ → Bool
is_live share = int_lt (pos 0) share.1

-- a move, with the mass that a plan lets through by it: at a turn of declarer's, the count of the move
abbrev pub share_of : Question → Plan → ClassHistory → ClassMove → ClassMove × ℤ
share_of question plan history move = (move, plan_mass question plan (history ++ move ∷ []))

-- the moves by which some mass is let through from a class history, in their order, each with how much
unfoldable pub live_shares : Question → Plan → ClassHistory → Shares
live_shares question plan history = filter is_live
    (map (share_of question plan history) (public_moves question history))
