-- What holds of every fate.
use Rattle.std.specs.Prelude.{◌≡◌, ◌≢◌, ◌≤◌, ℕ, Ok, Err}
use Rattle.suit_game.specs.declared.question.Question.{Question}
use Rattle.suit_game.specs.Validity.{IsValid}
use Rattle.suit_program.specs.Programs.{size_of}
use Rattle.suit_program.specs.Supports.{whole_support}
use Rattle.suit_answer.specs.declared.answer.Answer.{Answer}
use Rattle.suit_answer.specs.Writable.{IsWritable}
use Rattle.suit_solve.specs.declared.ends.SolveEnd.TheVariants as ends
use Rattle.suit_solve.specs.Comparing.{IsShown}
use Rattle.suit_solve.specs.Fates.{fate}
use Rattle.suit_solve.specs.Limits.{most_size}

-- an answer shows its value
abbrev pub AnswersAreShown : Type 0
AnswersAreShown = (question : Question) (answer : Answer) → IsValid question → fate question ≡ Ok answer
    → IsShown question answer

-- and it can be written
abbrev pub AnswersAreWritable : Type 0
AnswersAreWritable = (question : Question) (answer : Answer) → IsValid question → fate question ≡ Ok answer
    → IsWritable question answer

-- the rounds end: a question has an answer, or one of four reasons why not
abbrev pub RoundsEnd : Type 0
RoundsEnd = (question : Question) → IsValid question → fate question ≢ Err ends.Memory

-- no support is too large where that of all moves is not
abbrev pub WholeSupportsFit : Type 0
WholeSupportsFit = (question : Question) (round : ℕ) → IsValid question
    → size_of question whole_support ≤ most_size question → fate question ≢ Err (ends.Support round)
