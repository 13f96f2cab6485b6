-- What answer a text is, or its first fault. The lines are walked from the first, each with its number.
use Rattle.std.specs.Prelude.{ℕ, ◌+◌, zero, suc, not, Bool, false, List, [], ◌∷◌, length, codes, ⊤}
use Rattle.std.specs.Prelude.{Result, Ok, Err, if◌then◌else◌, ℤ}
use Rattle.std.specs.Option.{ok_or}
use Rattle.std.specs.Str.{bytes_eq}
use Rattle.suit_cards.specs.Cards.{Text}
use Rattle.suit_num.specs.declared.fraction.Frac.{Frac}
use Rattle.suit_game.specs.declared.question.Question.{Question}
use Rattle.suit_classes.specs.Classes.{defence_classes, hands_of}
use Rattle.suit_text.specs.Strict.{pieces_of, words_of, is_filled}
use Rattle.suit_answer.specs.Forms.{value_form, header_form}
use Rattle.suit_answer.specs.Fractions.{fraction_of}
use Rattle.suit_answer.specs.Letters.{class_letters}
use Rattle.suit_answer.specs.Lines.{line_due}
use Rattle.suit_answer.specs.Numbers.{number_due, small_due}
use Rattle.suit_answer.specs.Results.{◌>>=◌}
use Rattle.suit_answer.specs.Rows.{plan_row_due, defence_row_due}
use Rattle.suit_answer.specs.declared.answer.Answer.{Answer}
use Rattle.suit_answer.specs.declared.faults.AnswerFault.{AnswerFault}
use Rattle.suit_answer.specs.declared.faults.AnswerFault.TheVariants.{Version, Line, Number, Tail}
use Rattle.suit_answer.specs.declared.parts.TheConstants.{MOST_ROWS}

-- the first line tells the version
abbrev pub version_due : ℕ → Text → Result ⊤ AnswerFault
version_due number line = if bytes_eq line (codes "answer 1") then Ok tt else Err (Version number)

-- the value of its line, in lowest terms
unfoldable pub value_due : ℕ → List Text → Result Frac AnswerFault
value_due line words = do
  sides ← ok_or (value_form words) (Line line)
  num ← number_due line sides.0
  den ← number_due line sides.1
  ok_or (fraction_of num den) (Number line)

-- the denominator and the number of rows that a keyword's line tells
unfoldable pub header_due : Text → ℕ → List Text → Result (ℤ × ℕ) AnswerFault
header_due keyword line words = do
  numbers ← ok_or (header_form keyword words) (Line line)
  den ← number_due line numbers.0
  rows ← small_due MOST_ROWS line numbers.1
  Ok (den, rows)

-- so many rows, each on a line of its own, and the pieces after them
unfoldable pub rows_due : {R : Type 0} → (ℕ → List Text → Result R AnswerFault) → ℕ → ℕ → List Text
    → Result (List R × List Text) AnswerFault
rows_due row line zero pieces = Ok ([], pieces)
rows_due row line (suc count) pieces = do
  next ← line_due line pieces
  first ← row line (words_of next.0)
  more ← rows_due row (line + 1) count next.1
  Ok (first ∷ more.0, more.1)

-- a denominator and rows, the number of the line after them, and the pieces from there on
unfoldable pub part_due : {R : Type 0} → Text → (ℕ → List Text → Result R AnswerFault) → ℕ → List Text
    → Result (ℤ × List R × ℕ × List Text) AnswerFault
part_due keyword row line pieces = do
  next ← line_due line pieces
  header ← header_due keyword line (words_of next.0)
  rows ← rows_due row (line + 1) header.1 next.1
  Ok (header.0, rows.0, line + 1 + header.1, rows.1)

-- nothing is left but what stands after the last line feed, and that is nothing
abbrev pub is_over : List Text → Bool
is_over [] = false
is_over (piece ∷ []) = not (is_filled piece)
is_over (piece ∷ next ∷ pieces) = false

-- nothing stands after a line of this number
abbrev pub nothing_after : ℕ → List Text → Result ⊤ AnswerFault
nothing_after line pieces = if is_over pieces then Ok tt else Err (Tail (line + 1))

-- the end, and nothing after it
unfoldable pub end_due : ℕ → List Text → Result ⊤ AnswerFault
end_due line pieces = do
  next ← line_due line pieces
  if bytes_eq next.0 (codes "end") then nothing_after line next.1 else Err (Line line)

-- an answer, where the letters of the classes are given, and how many classes the defenders have
unfoldable pub answer_due : Text → ℕ → List Text → Result Answer AnswerFault
answer_due letters classes pieces = do
  first ← line_due 1 pieces
  version ← version_due 1 first.0
  second ← line_due 2 first.1
  value ← value_due 2 (words_of second.0)
  plan ← part_due (codes "plan") (plan_row_due letters) 3 second.1
  defence ← part_due (codes "defence") (defence_row_due letters classes) plan.2 plan.3
  end ← end_due defence.2 defence.3
  Ok (record {
    value = value;
    plan = record { den = plan.0; rows = plan.1 };
    defence = record { den = defence.0; rows = defence.1 };
  })

-- the answer of a text, or its first fault
abbrev pub answer_read : Question → Text → Result Answer AnswerFault
answer_read question text =
    answer_due (class_letters (hands_of question)) (length (defence_classes (hands_of question))) (pieces_of text)
