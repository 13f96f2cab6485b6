-- What a question text asks, or its first fault.
use Rattle.std.specs.Prelude.{ℕ, ◌+◌, List, [], ◌∷◌, length, Option, Some, None, Result, Err, if◌then◌else◌}
use Rattle.std.specs.Option.{option_map_or}
use Rattle.suit_cards.specs.Cards.{Text}
use Rattle.suit_game.specs.declared.question.Question.{Question}
use Rattle.suit_question.specs.Columns.{no_columns, column_put, both_put, finished, told_at}
use Rattle.suit_question.specs.Keywords.{keyword_named}
use Rattle.suit_question.specs.Results.{◌>>=◌}
use Rattle.suit_question.specs.Words.{is_skipped, is_end}
use Rattle.suit_question.specs.declared.column.Column.{Column}
use Rattle.suit_question.specs.declared.columns.Columns.{Columns}
use Rattle.suit_question.specs.declared.faults.QuestionFault.{QuestionFault}
use Rattle.suit_question.specs.declared.faults.QuestionKind.{QuestionKind}
use Rattle.suit_question.specs.declared.faults.QuestionKind.TheVariants.{NoLine, Word, Tail}
use Rattle.suit_question.specs.declared.keywords.Keyword.{Keyword}
use Rattle.suit_question.specs.declared.keywords.Keyword.TheVariants.{Single, Pair}
use Rattle.suit_text.specs.Loose.{pieces_of, line_of, lines_of, words_of}

-- one value, and no other number of them
abbrev pub one_put : Columns → Column → List Text → Result Columns QuestionKind
one_put columns column [] = Err Word
one_put columns column (value ∷ []) = column_put columns column value
one_put columns column (value ∷ more ∷ values) = Err Word

-- two values, from left to right
abbrev pub two_put : Columns → Column → Column → List Text → Result Columns QuestionKind
two_put columns first second [] = Err Word
two_put columns first second (value ∷ []) = Err Word
two_put columns first second (value ∷ other ∷ []) = both_put columns first value second other
two_put columns first second (value ∷ other ∷ more ∷ values) = Err Word

-- the values of a keyword
abbrev pub values_put : Columns → Keyword → List Text → Result Columns QuestionKind
values_put columns (Single column) values = one_put columns column values
values_put columns (Pair first second) values = two_put columns first second values

-- a line: its keyword, as many words as that has, and its values where the keyword has not stood before. A keyword
-- fills its columns together, so that it has stood before where its first column has a value
abbrev pub line_put : Columns → List Text → Result Columns QuestionKind
line_put columns [] = Err Word
line_put columns (word ∷ values) =
    option_map_or (λ keyword. values_put columns keyword values) (keyword_named word) (Err Word)

-- the number of the first line that says something
unfoldable pub first_saying : ℕ → List (List Text) → Option ℕ
first_saying number [] = None
first_saying number (line ∷ lines) = if is_skipped line then first_saying (number + 1) lines else Some number

-- the columns at an end line: nothing may be said after it, and then they are a question, or have a fault of the whole
abbrev pub ended : Columns → ℕ → List (List Text) → Result Question QuestionFault
ended columns number lines =
    option_map_or (λ later. Err (record { kind = Tail; line = later })) (first_saying (number + 1) lines)
    (told_at number (finished columns))

-- lines from a number on, after these columns: each that is not skipped is the end, or puts its values
unfoldable pub asked_by : Columns → ℕ → List (List Text) → Result Question QuestionFault
asked_by columns number [] = Err (record { kind = NoLine; line = number })
asked_by columns number (line ∷ lines) =
    if is_skipped line then asked_by columns (number + 1) lines
    else if is_end line then ended columns number lines
    else (told_at number (line_put columns line) >>= λ after. asked_by after (number + 1) lines)

-- the question of a text, or its first fault
abbrev pub question_read : Text → Result Question QuestionFault
question_read text = asked_by no_columns 1 (lines_of text)

-- how many bytes there are up to the first end line, with it
unfoldable pub end_of : List Text → ℕ
end_of [] = 0
end_of (piece ∷ pieces) = length piece + (if is_end (words_of (line_of piece)) then 0 else end_of pieces)

-- the index just after the first end line of a text, or the text's length
abbrev pub end_index : Text → ℕ
end_index text = end_of (pieces_of text)
