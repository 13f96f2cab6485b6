-- The commands that read a question.
use Rattle.std.specs.Prelude.{List, Option, Some, None, if◌then◌else◌}
use Rattle.suit_cards.specs.Cards.{Text}
use Rattle.suit_game.specs.declared.question.Question.{Question}
use Rattle.suit_question.specs.Reading.{question_read}
use Rattle.suit_top.specs.declared.commands.on_question.QuestionCommand.{QuestionCommand}
use Rattle.suit_top.specs.declared.commands.on_question.QuestionCommand.TheVariants.{Solve, Weigh}
use Rattle.suit_top.specs.Asking.{due_of_read, SaysOfAsked}
use Rattle.suit_top.specs.Commands.Solve.{is_solve, due_solving, Answers}
use Rattle.suit_top.specs.Commands.Weigh.{is_weigh, due_weighing, Weighs}
use Rattle.suit_top.specs.Dues.{Due}

-- the command that the words after the program's name form, if they form one of these
abbrev pub question_command_of : List Text → Option QuestionCommand
question_command_of words =
    if is_solve words then Some Solve
    else if is_weigh words then Some Weigh
    else None

-- what is owed about a question
abbrev pub due_about : QuestionCommand → Question → Due
due_about Solve question = due_solving question
due_about Weigh question = due_weighing question

-- what the text says about it with Done
abbrev pub SaysAbout : QuestionCommand → Question → Text → Type 0
SaysAbout Solve question text = Answers question text
SaysAbout Weigh question text = Weighs question text

-- what is owed for an input, which asks the question
abbrev pub due_on_question : QuestionCommand → Text → Due
due_on_question command input = due_of_read (due_about command) (question_read input)

-- what the text says of an input with Done
abbrev pub SaysOnQuestion : QuestionCommand → Text → Text → Type 0
SaysOnQuestion command input text = SaysOfAsked (SaysAbout command) input text
