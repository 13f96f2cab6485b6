-- The lines of play of an answer.
use Rattle.std.specs.Prelude.{◌++◌, codes}
use Rattle.std.specs.List.{flat_map}
use Rattle.suit_cards.specs.Cards.{Text}
use Rattle.suit_game.specs.declared.question.Question.{Question}
use Rattle.suit_classes.specs.Classes.{hands_of}
use Rattle.suit_classes.specs.ClassMoves.{ClassHistory}
use Rattle.suit_classes.specs.ClassPlaces.{class_after, class_start, class_turn}
use Rattle.suit_plans.specs.Masses.{plan_mass}
use Rattle.suit_plans.specs.declared.plan.Plan.{Plan}
use Rattle.suit_answer.specs.Letters.{class_letters}
use Rattle.suit_answer.specs.declared.answer.Answer.{Answer}
use Rattle.suit_lines.specs.Sentences.{choice_words, opening}
use Rattle.suit_lines.specs.Told.{live_shares, told_histories}
use Rattle.suit_lines.specs.Values.{value_line}

-- the line of a class history: what was played, and what the plan does then
unfoldable pub history_line : Question → Plan → ClassHistory → Text
history_line question plan history =
    opening (class_letters (hands_of question)) (class_start question) history
    ++ choice_words (class_letters (hands_of question)) (class_turn (class_after question history))
    (plan_mass question plan history) (live_shares question plan history)
    ++ codes ".\n"

-- the value, and then a line for each class history of which the plan is told
unfoldable pub lines_of : Question → Answer → Text
lines_of question answer =
    value_line question.goal answer.value
    ++ flat_map (history_line question answer.plan) (told_histories question answer.plan)
