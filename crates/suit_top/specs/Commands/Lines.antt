-- `lines`: the plan of the answer that follows a question, told in sentences.
use Rattle.std.specs.Prelude.{◌≡◌, Bool, true, false, List, codes, if◌then◌else◌}
use Rattle.suit_cards.specs.Cards.{Text}
use Rattle.suit_game.specs.declared.question.Question.{Question}
use Rattle.suit_answer.specs.declared.answer.Answer.{Answer}
use Rattle.suit_lines.specs.Lines.{lines_of}
use Rattle.suit_top.specs.declared.status.Status.{Status}
use Rattle.suit_top.specs.declared.status.Status.TheVariants.{Done}
use Rattle.suit_top.specs.Certified.{IsCertifiedAnswer}
use Rattle.suit_top.specs.Commands.Check.{due_checking}
use Rattle.suit_top.specs.Dues.{Due, done}
use Rattle.suit_top.specs.Words.{is_only}

-- the words of the command
abbrev pub is_lines : List Text → Bool
is_lines words = is_only (codes "lines") words

-- whether a status says that all went well
abbrev pub is_done : Status → Bool
is_done Done = true
is_done _ = false

-- what is due where `check` owes this of an answer: where it is valid, its lines of play, and else the same
abbrev pub due_told : Question → Answer → Due → Due
due_told question answer due = if is_done due.status then done (lines_of question answer) else due

-- what is due about an answer
abbrev pub due_telling : Question → Answer → Due
due_telling question answer = due_told question answer (due_checking question answer)

-- an answer is certified, and the text written is its lines of play
pub record Tells (question : Question) (answer : Answer) (text : Text) : Type 0 where
  pub certified : IsCertifiedAnswer question answer
  pub is_text : text ≡ lines_of question answer
