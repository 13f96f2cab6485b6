-- How an answer is written.
use Rattle.std.specs.Prelude.{ℕ, List, [], ◌∷◌, ◌++◌, map, length, codes, decimal, ℤ}
use Rattle.std.specs.Fmt.{signed_decimal}
use Rattle.std.specs.List.{flat_map}
use Rattle.suit_cards.specs.Cards.{Text}
use Rattle.suit_num.specs.declared.fraction.Frac.{Frac}
use Rattle.suit_game.specs.declared.question.Question.{Question}
use Rattle.suit_classes.specs.Classes.{hands_of}
use Rattle.suit_classes.specs.ClassMoves.{ClassHistory}
use Rattle.suit_classes.specs.declared.class_moves.ClassMove.{ClassMove}
use Rattle.suit_plans.specs.Masses.{Shares}
use Rattle.suit_plans.specs.declared.plan.Plan.{Plan}
use Rattle.suit_plans.specs.declared.plan.Row.{Row}
use Rattle.suit_plans.specs.declared.defence.Defence.{Defence}
use Rattle.suit_plans.specs.declared.defence.DefenceRow.{DefenceRow}
use Rattle.suit_answer.specs.Letters.{class_letters, move_word}
use Rattle.suit_answer.specs.declared.answer.Answer.{Answer}

-- words, each with a space in front
unfoldable pub spaced : List Text → Text
spaced words = flat_map (λ word. 32 ∷ word) words

-- a line: its words one space apart, and the line feed that ends it
abbrev pub line_text : List Text → Text
line_text [] = 10 ∷ []
line_text (word ∷ words) = word ++ (spaced words ++ 10 ∷ [])

-- a move and its count
abbrev pub share_words : Text → ClassMove × ℤ → List Text
share_words letters share = move_word letters share.0 ∷ signed_decimal share.1 ∷ []

-- the moves of a history, a colon, and moves with their counts
unfoldable pub turn_words : Text → ClassHistory → Shares → List Text
turn_words letters history shares =
    map (move_word letters) history ++ codes ":" ∷ flat_map (share_words letters) shares

-- a row of a plan
abbrev pub plan_row_words : Text → Row → List Text
plan_row_words letters row = codes "at" ∷ turn_words letters row.history row.counts

-- a row of a defence
abbrev pub defence_row_words : Text → DefenceRow → List Text
defence_row_words letters row =
    codes "west" ∷ (map decimal row.west ++ codes "at" ∷ turn_words letters row.history row.counts)

-- the value
abbrev pub value_words : Frac → List Text
value_words value = codes "value" ∷ (signed_decimal value.num ++ 47 ∷ signed_decimal value.den) ∷ []

-- a denominator and a number of rows, after their keyword
abbrev pub header_words : Text → ℤ → ℕ → List Text
header_words keyword den rows = keyword ∷ signed_decimal den ∷ decimal rows ∷ []

-- the lines of a keyword, a denominator and rows, each as its words
abbrev pub part_lines : {R : Type 0} → Text → (R → List Text) → ℤ → List R → List (List Text)
part_lines keyword row_words den rows = header_words keyword den (length rows) ∷ map row_words rows

-- the lines of a plan, each as its words, where the letters of the classes are given
abbrev pub plan_lines : Text → Plan → List (List Text)
plan_lines letters plan = part_lines (codes "plan") (plan_row_words letters) plan.den plan.rows

-- the lines of a defence
abbrev pub defence_lines : Text → Defence → List (List Text)
defence_lines letters defence =
    part_lines (codes "defence") (defence_row_words letters) defence.den defence.rows

-- the line that ends a text
abbrev pub end_line : List Text
end_line = codes "end" ∷ []

-- the lines of an answer
abbrev pub answer_lines : Text → Answer → List (List Text)
answer_lines letters answer =
    (codes "answer" ∷ codes "1" ∷ [])
    ∷ value_words answer.value
    ∷ (plan_lines letters answer.plan ++ (defence_lines letters answer.defence ++ end_line ∷ []))

-- the text of an answer to a question
abbrev pub text_of : Question → Answer → Text
text_of question answer = flat_map line_text (answer_lines (class_letters (hands_of question)) answer)
