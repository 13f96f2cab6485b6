-- What a line is, by its words.
use Rattle.std.specs.Prelude.{◌≡◌, List, [], ◌∷◌, true, false, Err}
use Rattle.suit_cards.specs.Cards.{Text}
use Rattle.suit_question.specs.Reading.{line_put}
use Rattle.suit_question.specs.Words.{is_skipped, is_end}
use Rattle.suit_question.specs.declared.columns.Columns.{Columns}
use Rattle.suit_question.specs.declared.faults.QuestionKind.TheVariants.{Word}
use Rattle.suit_question.specs.declared.line.Line.{Line}
use Rattle.suit_question.specs.declared.line.Line.TheVariants.{Skipped, End, One, Two, Other}

-- a line that says something and does not end the question
pub record IsEntry (words : List Text) : Type 0 where
  pub said : is_skipped words ≡ false
  pub goes_on : is_end words ≡ false

-- these words make this line
abbrev pub IsLine : List Text → Line → Type 0
IsLine words Skipped = (is_skipped words ≡ true) × (is_end words ≡ false)
IsLine words End = (is_skipped words ≡ false) × (is_end words ≡ true)
IsLine words (One keyword value) = IsEntry words × (words ≡ keyword.now ∷ value.now ∷ [])
IsLine words (Two keyword left right) = IsEntry words × (words ≡ keyword.now ∷ left.now ∷ right.now ∷ [])
IsLine words Other = IsEntry words × ((columns : Columns) → line_put columns words ≡ Err Word)
