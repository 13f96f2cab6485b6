-- The commands that read a table.
use Rattle.std.specs.Prelude.{List, Option, Some, None, if◌then◌else◌}
use Rattle.suit_cards.specs.Cards.{Text}
use Rattle.suit_table.specs.Tables.{IsTable}
use Rattle.suit_top.specs.declared.commands.on_table.TableCommand.{TableCommand}
use Rattle.suit_top.specs.declared.commands.on_table.TableCommand.TheVariants.{Table}
use Rattle.suit_top.specs.Commands.Table.{is_table, due_tabling, IsTextTabled, Shows}
use Rattle.suit_top.specs.Dues.{Due}

-- the command that the words after the program's name form, if they form one of these
abbrev pub table_command_of : List Text → Option TableCommand
table_command_of words = if is_table words then Some Table else None

-- what is owed for an input
abbrev pub due_on_table : TableCommand → Text → Due
due_on_table Table input = due_tabling input

-- a text may be written for an input: the one that is due, but that a line may tell that memory was wanted
abbrev pub IsOwedOnTable : TableCommand → Text → Text → Type 0
IsOwedOnTable Table input text = IsTextTabled input text

-- what the text says of an input with Done
abbrev pub SaysOnTable : TableCommand → Text → Text → Type 0
SaysOnTable Table input text = IsTable Shows input text
