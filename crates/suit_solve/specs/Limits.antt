-- How large the program of a support may be.
use Rattle.std.specs.Prelude.{ℕ}
use Rattle.suit_game.specs.declared.question.Question.{Question}
use Rattle.suit_game.specs.declared.limits.TheConstants.{MOST_SUPPORT}

-- the most rows and columns that a program of a question may have: for each question the same
abbrev pub most_size : Question → ℕ
most_size question = MOST_SUPPORT
