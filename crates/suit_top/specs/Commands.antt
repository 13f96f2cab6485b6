-- The commands, by what they read: for each its words, the most input that it takes, what it owes, and what its text
-- says. A room lists the commands that read alike; each command has a file of its own.
pub mod Check
pub mod Lines
pub mod Made
pub mod Make
pub mod OnAnswer
pub mod OnNothing
pub mod OnQuestion
pub mod OnTable
pub mod Solve
pub mod Table
pub mod Trial
pub mod Weigh
use Rattle.std.specs.Prelude.{◌≡◌, ⊤, ℕ, Bool, true, false, List, Option, Some, None, option_map}
use Rattle.std.specs.Option.{option_or}
use Rattle.suit_cards.specs.Cards.{Text}
use Rattle.suit_table.specs.declared.records.TheConstants.{MOST_TABLE}
use Rattle.suit_top.specs.declared.commands.Command.{Command}
use Rattle.suit_top.specs.declared.commands.Command.TheVariants as reads
use Rattle.suit_top.specs.declared.commands.TheConstants.{MOST_INPUT}
use Rattle.suit_top.specs.Commands.OnAnswer.{answer_command_of, due_on_answer, SaysOnAnswer}
use Rattle.suit_top.specs.Commands.OnNothing.{bare_command_of, bare_text, IsBareCommand}
use Rattle.suit_top.specs.Commands.OnQuestion.{question_command_of, due_on_question, SaysOnQuestion}
use Rattle.suit_top.specs.Commands.OnTable.{table_command_of, due_on_table, IsOwedOnTable, SaysOnTable}
use Rattle.suit_top.specs.Dues.{Due, done}

-- the command that the words after the program's name form, if they form one
abbrev pub command_of : List Text → Option Command
command_of words =
    option_or (option_map reads.OnQuestion (question_command_of words))
    (option_or (option_map reads.OnAnswer (answer_command_of words))
    (option_or (option_map reads.OnTable (table_command_of words))
    (option_map reads.OnNothing (bare_command_of words))))

-- what holds of every command: the words of those that read nothing say no more than they may
abbrev pub IsCommand : Command → Type 0
IsCommand (reads.OnQuestion command) = ⊤
IsCommand (reads.OnAnswer command) = ⊤
IsCommand (reads.OnTable command) = ⊤
IsCommand (reads.OnNothing command) = IsBareCommand command

-- whether a command reads its input
abbrev pub reads_input : Command → Bool
reads_input (reads.OnQuestion command) = true
reads_input (reads.OnAnswer command) = true
reads_input (reads.OnTable command) = true
reads_input (reads.OnNothing command) = false

-- the most bytes of input that a command takes; one that reads none has the empty one
abbrev pub limit_of : Command → ℕ
limit_of (reads.OnQuestion command) = MOST_INPUT
limit_of (reads.OnAnswer command) = MOST_INPUT
limit_of (reads.OnTable command) = MOST_TABLE
limit_of (reads.OnNothing command) = 0

-- whether words form a command that reads its input
abbrev pub words_read : Option Command → Bool
words_read None = false
words_read (Some command) = reads_input command

-- what a command owes for an input that is not too long
abbrev pub due_within : Command → Text → Due
due_within (reads.OnQuestion command) input = due_on_question command input
due_within (reads.OnAnswer command) input = due_on_answer command input
due_within (reads.OnTable command) input = due_on_table command input
due_within (reads.OnNothing command) input = done (bare_text command)

-- a text may be written for such an input: it is the one that is due, but for what `table` tells where memory was
-- wanted
abbrev pub IsOwedWithin : Command → Text → Text → Type 0
IsOwedWithin (reads.OnQuestion command) input text = text ≡ (due_on_question command input).text
IsOwedWithin (reads.OnAnswer command) input text = text ≡ (due_on_answer command input).text
IsOwedWithin (reads.OnTable command) input text = IsOwedOnTable command input text
IsOwedWithin (reads.OnNothing command) input text = text ≡ bare_text command

-- what a text says that a command writes with Done
abbrev pub Says : Option Command → Text → Text → Type 0
Says None input text = ⊥
Says (Some (reads.OnQuestion command)) input text = SaysOnQuestion command input text
Says (Some (reads.OnAnswer command)) input text = SaysOnAnswer command input text
Says (Some (reads.OnTable command)) input text = SaysOnTable command input text
Says (Some (reads.OnNothing command)) input text = text ≡ bare_text command
