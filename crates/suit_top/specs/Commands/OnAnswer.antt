-- The commands that read a question and an answer to it.
use Rattle.std.specs.Prelude.{List, Option, Some, None, if◌then◌else◌}
use Rattle.suit_cards.specs.Cards.{Text}
use Rattle.suit_game.specs.declared.question.Question.{Question}
use Rattle.suit_question.specs.Reading.{question_read}
use Rattle.suit_answer.specs.declared.answer.Answer.{Answer}
use Rattle.suit_answer.specs.Reading.{answer_read}
use Rattle.suit_top.specs.declared.commands.on_answer.AnswerCommand.{AnswerCommand}
use Rattle.suit_top.specs.declared.commands.on_answer.AnswerCommand.TheVariants.{Check, Lines}
use Rattle.suit_top.specs.Asking.{answer_part, due_of_answer_read, due_of_read, question_part}
use Rattle.suit_top.specs.Asking.{SaysOfAnswer, SaysOfAsked}
use Rattle.suit_top.specs.Commands.Check.{is_check, due_checking, Checks}
use Rattle.suit_top.specs.Commands.Lines.{is_lines, due_telling, Tells}
use Rattle.suit_top.specs.Dues.{Due}

-- the command that the words after the program's name form, if they form one of these
abbrev pub answer_command_of : List Text → Option AnswerCommand
answer_command_of words =
    if is_check words then Some Check
    else if is_lines words then Some Lines
    else None

-- what is owed about an answer
abbrev pub due_answered : AnswerCommand → Question → Answer → Due
due_answered Check question answer = due_checking question answer
due_answered Lines question answer = due_telling question answer

-- what the text says about it with Done
abbrev pub SaysAnswered : AnswerCommand → Question → Answer → Text → Type 0
SaysAnswered Check question answer text = Checks question answer text
SaysAnswered Lines question answer text = Tells question answer text

-- what is owed about a question and the text that follows it
abbrev pub due_with_answer : AnswerCommand → Text → Question → Due
due_with_answer command rest question =
    due_of_answer_read (due_answered command question) (answer_read question rest)

-- what is owed for an input, which asks the question and tells the answer
abbrev pub due_on_answer : AnswerCommand → Text → Due
due_on_answer command input =
    due_of_read (due_with_answer command (answer_part input)) (question_read (question_part input))

-- what the text says of an input with Done
abbrev pub SaysOnAnswer : AnswerCommand → Text → Text → Type 0
SaysOnAnswer command input text =
    SaysOfAsked (λ question. SaysOfAnswer (SaysAnswered command question) question (answer_part input))
    (question_part input) text
