-- The question that the fields of a record name.
use Rattle.std.specs.Prelude.{ℕ, ◌+◌, List, [], ◌∷◌, Result, Ok}
use Rattle.suit_cards.specs.Cards.{Text}
use Rattle.suit_game.specs.declared.question.Question.{Question}
use Rattle.suit_question.specs.Columns.{no_columns, column_numbered, column_put, finished}
use Rattle.suit_question.specs.Results.{◌>>=◌}
use Rattle.suit_question.specs.declared.columns.Columns.{Columns}
use Rattle.suit_question.specs.declared.faults.QuestionKind.{QuestionKind}

-- the columns after words are put, one in each, from the column of a number on
abbrev pub words_put : ℕ → Columns → List Text → Result Columns QuestionKind
words_put number columns [] = Ok columns
words_put number columns (word ∷ words) =
    column_put columns (column_numbered number) word >>= λ after. words_put (number + 1) after words

-- the question of a draft into which the fields are put in the order of the columns, and which is then finished
unfoldable pub question_named : List Text → Result Question QuestionKind
question_named fields = words_put 1 no_columns fields >>= finished
