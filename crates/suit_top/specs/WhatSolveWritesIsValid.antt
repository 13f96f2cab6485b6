-- What `solve` writes behind its own question is valid to `check`.
use Rattle.std.specs.Prelude.{◌≡◌, ◌≤◌, [], ◌∷◌, ◌++◌, Some, codes, length}
use Rattle.suit_cards.specs.Cards.{Text}
use Rattle.suit_question.specs.Reading.{end_index}
use Rattle.suit_top.specs.declared.commands.TheConstants.{MOST_INPUT}
use Rattle.suit_top.specs.declared.commands.Command.TheVariants.{OnQuestion}
use Rattle.suit_top.specs.declared.commands.on_question.QuestionCommand.TheVariants.{Solve}
use Rattle.suit_top.specs.Commands.{Says}
use Rattle.suit_top.specs.Commands.Check.{valid_text}
use Rattle.suit_top.specs.Dues.{done}
use Rattle.suit_top.specs.Owing.{due}

-- a text ends with the line that ends its question, and with that line's line feed
pub record EndsAsked (input : Text) : Type 0 where
  pub whole : end_index input ≡ length input
  pub front : Text
  pub fed : input ≡ front ++ 10 ∷ []

-- where a run of `solve` has ended with Done for such an input, so that its text says this, `check` owes that the text
-- is valid behind the input, if both are within the limit
abbrev pub SolvedTextsAreValid : Type 0
SolvedTextsAreValid = (input text : Text) → EndsAsked input → Says (Some (OnQuestion Solve)) input text
    → length (input ++ text) ≤ MOST_INPUT → due (codes "check" ∷ []) (input ++ text) ≡ done valid_text
