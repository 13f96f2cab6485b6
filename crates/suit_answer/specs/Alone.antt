-- A plan or a defence that stands alone in a text: its lines, and the line that ends the text.
use Rattle.std.specs.Prelude.{ℕ, ℤ, List, [], ◌∷◌, ◌++◌, length, codes, Result, Ok}
use Rattle.std.specs.List.{flat_map}
use Rattle.suit_cards.specs.Cards.{Text}
use Rattle.suit_game.specs.declared.question.Question.{Question}
use Rattle.suit_classes.specs.Classes.{defence_classes, hands_of}
use Rattle.suit_plans.specs.declared.plan.Plan.{Plan}
use Rattle.suit_plans.specs.declared.plan.Row.{Row}
use Rattle.suit_plans.specs.declared.defence.Defence.{Defence}
use Rattle.suit_plans.specs.declared.defence.DefenceRow.{DefenceRow}
use Rattle.suit_text.specs.Strict.{pieces_of}
use Rattle.suit_answer.specs.Letters.{class_letters}
use Rattle.suit_answer.specs.Reading.{part_due, end_due}
use Rattle.suit_answer.specs.Results.{◌>>=◌}
use Rattle.suit_answer.specs.Rows.{plan_row_due, defence_row_due}
use Rattle.suit_answer.specs.Writing.{line_text, plan_lines, defence_lines, end_line}
use Rattle.suit_answer.specs.declared.faults.AnswerFault.{AnswerFault}

-- what is made of the denominator and the rows of a part that begins with the first line and has the end after it
unfoldable pub alone_due : {R P : Type 0} → Text → (ℕ → List Text → Result R AnswerFault) → (ℤ → List R → P)
    → List Text → Result P AnswerFault
alone_due keyword row made pieces = do
  part ← part_due keyword row 1 pieces
  end ← end_due part.2 part.3
  Ok (made part.0 part.1)

abbrev pub made_plan : ℤ → List Row → Plan
made_plan den rows = record { den = den; rows = rows }

abbrev pub made_defence : ℤ → List DefenceRow → Defence
made_defence den rows = record { den = den; rows = rows }

-- the plan of a text, where the letters of the classes are given
abbrev pub plan_alone_due : Text → List Text → Result Plan AnswerFault
plan_alone_due letters pieces = alone_due (codes "plan") (plan_row_due letters) made_plan pieces

-- the defence of a text, where it is given, too, how many classes the defenders have
abbrev pub defence_alone_due : Text → ℕ → List Text → Result Defence AnswerFault
defence_alone_due letters classes pieces =
    alone_due (codes "defence") (defence_row_due letters classes) made_defence pieces

-- the plan of a text, or its first fault
abbrev pub plan_read : Question → Text → Result Plan AnswerFault
plan_read question text = plan_alone_due (class_letters (hands_of question)) (pieces_of text)

-- the defence of a text, or its first fault
abbrev pub defence_read : Question → Text → Result Defence AnswerFault
defence_read question text =
    defence_alone_due (class_letters (hands_of question)) (length (defence_classes (hands_of question)))
    (pieces_of text)

-- the text of a plan for a question
abbrev pub plan_text_of : Question → Plan → Text
plan_text_of question plan = flat_map line_text (plan_lines (class_letters (hands_of question)) plan ++ end_line ∷ [])

-- the text of a defence for a question
abbrev pub defence_text_of : Question → Defence → Text
defence_text_of question defence =
    flat_map line_text (defence_lines (class_letters (hands_of question)) defence ++ end_line ∷ [])
