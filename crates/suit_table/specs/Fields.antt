-- The question that the fields of a record name.
use Rattle.std.specs.Prelude.{ℕ, suc, [], ◌∷◌, reverse, Result, Ok, if◌then◌else◌}
use Rattle.suit_cards.specs.Cards.{Text}
use Rattle.suit_game.specs.declared.question.Question.{Question}
use Rattle.suit_question.specs.Columns.{no_columns, column_numbered, column_put, finished, told_at}
use Rattle.suit_question.specs.Results.{◌>>=◌}
use Rattle.suit_text.specs.Loose.{is_blank}
use Rattle.suit_question.specs.declared.column.Column.{Column}
use Rattle.suit_question.specs.declared.columns.Columns.{Columns}
use Rattle.suit_question.specs.declared.faults.QuestionFault.{QuestionFault}
use Rattle.suit_question.specs.declared.faults.QuestionKind.{QuestionKind}
use Rattle.suit_table.specs.Records.{Record}

-- a text without the spaces and tabs that it begins with
unfoldable pub without_front : Text → Text
without_front [] = []
without_front (byte ∷ rest) = if is_blank byte then without_front rest else byte ∷ rest

-- a text without those at both of its ends
abbrev pub trimmed : Text → Text
trimmed text = reverse (without_front (reverse (without_front text)))

-- the columns after the text of a field is put into one; an empty text is not put
abbrev pub field_put : Columns → Column → Text → Result Columns QuestionKind
field_put columns column [] = Ok columns
field_put columns column (byte ∷ rest) = column_put columns column (byte ∷ rest)

-- the columns after the fields are put, one in each, from the column of a number on
unfoldable pub fields_put : ℕ → Columns → Record → Result Columns QuestionKind
fields_put number columns [] = Ok columns
fields_put number columns (field ∷ fields) =
    field_put columns (column_numbered number) (trimmed field) >>= λ after. fields_put (suc number) after fields

-- the question that a record names, or the first fault of its fields or of the whole, told of the record's number
abbrev pub question_named : ℕ → Record → Result Question QuestionFault
question_named number fields = told_at number (fields_put 1 no_columns fields >>= finished)
