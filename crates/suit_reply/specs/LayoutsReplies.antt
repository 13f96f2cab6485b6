-- What the best reply to a plan comes to in some of a question's class layouts.
-- This serves the contracts of private functions alone, as what is said of nodes does.
use Rattle.std.specs.Prelude.{◌≡◌, ℕ, List, [], get_or, map, ℤ, pos, ◌*ℤ◌}
use Rattle.std.specs.List.{flat_map, range_with_len}
use Rattle.suit_cards.specs.Cards.{ClassLayout}
use Rattle.suit_game.specs.declared.question.Question.{Question}
use Rattle.suit_classes.specs.Classes.{sizes_of}
use Rattle.suit_layouts.specs.ClassLayouts.{class_layouts}
use Rattle.suit_plans.specs.declared.moves.DefenceMove.{DefenceMove}
use Rattle.suit_plans.specs.declared.plan.Plan.{Plan}
use Rattle.suit_plans.specs.BestReplies.{least_reply_in, reply_to_plan, worth}
use Rattle.suit_plans.specs.Properness.{sum_of}

-- the class layout at an index, with its weight
abbrev pub layout_at : Question → ℕ → ClassLayout × ℕ
layout_at question index = get_or (class_layouts question (sizes_of question)) index ([], 0)

-- what it is worth to the defence that replies to a plan, by its weight
abbrev pub weighed_worth : Question → Plan → ℕ → ℤ
weighed_worth question plan index =
    pos (layout_at question index).1 *ℤ worth (reply_to_plan question plan (layout_at question index).0) []

-- the best reply to a plan in so many class layouts from an index on: what they are worth together, and its choices
pub record IsReplyIn (question : Question) (plan : Plan) (start count : ℕ) (number : ℤ) (moves : List DefenceMove) :
    Type
    0 where
  pub sum : number ≡ sum_of (map (weighed_worth question plan) (range_with_len start count))
  pub replies : moves ≡ flat_map (λ index. least_reply_in question plan (layout_at question index).0 index)
      (range_with_len start count)
