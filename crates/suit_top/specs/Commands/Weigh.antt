-- `weigh`: the class layouts of positive weight of a question, each with its weight, and the total.
use Rattle.std.specs.Prelude.{◌≡◌, ℕ, Bool, List, ◌++◌, codes, decimal, length, sum_by}
use Rattle.std.specs.List.{flat_map}
use Rattle.suit_cards.specs.Cards.{ClassLayout, Text}
use Rattle.suit_game.specs.declared.question.Question.{Question}
use Rattle.suit_game.specs.Layouts.{total}
use Rattle.suit_classes.specs.Classes.{sizes_of}
use Rattle.suit_layouts.specs.ClassLayouts.{class_layouts}
use Rattle.suit_top.specs.Dues.{Due, done}
use Rattle.suit_top.specs.Words.{is_only}

-- the words of the command
abbrev pub is_weigh : List Text → Bool
is_weigh words = is_only (codes "weigh") words

-- a count behind a space
unfoldable pub count_text : ℕ → Text
count_text count = codes " " ++ decimal count

-- the line of one class layout: West's counts, and the weight
unfoldable pub layout_line : ClassLayout × ℕ → Text
layout_line layout = codes "west" ++ flat_map count_text layout.0 ++ codes " : " ++ decimal layout.1 ++ codes "\n"

-- the text of some class layouts, each with its weight, and of a total
unfoldable pub weights_text : List (ClassLayout × ℕ) → ℕ → Text
weights_text layouts all =
    codes "weights " ++ decimal (length layouts) ++ codes "\n"
    ++ flat_map layout_line layouts
    ++ codes "total " ++ decimal all ++ codes "\nend\n"

-- the weights of a question
abbrev pub weighing : Question → Text
weighing question = weights_text (class_layouts question (sizes_of question)) (total question)

-- what is due about a question
abbrev pub due_weighing : Question → Due
due_weighing question = done (weighing question)

-- a text tells the weights of a question, and they add up to the total written
pub record Weighs (question : Question) (text : Text) : Type 0 where
  pub is_text : text ≡ weighing question
  pub adds_up : sum_by (λ layout. layout.1) (class_layouts question (sizes_of question)) ≡ total question
