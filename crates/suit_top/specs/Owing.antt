-- What a run owes: the status that is due, and the bytes that go with it.
use Rattle.std.specs.Prelude.{◌≡◌, nat_lt, List, [], length, Option, Some, None, MatchBool, if◌then◌else◌}
use Rattle.suit_cards.specs.Cards.{Text}
use Rattle.suit_top.specs.declared.commands.Command.{Command}
use Rattle.suit_top.specs.declared.status.Status.{Status}
use Rattle.suit_top.specs.declared.status.Status.TheVariants.{Usage, Long}
use Rattle.suit_top.specs.Commands.{command_of, due_within, IsOwedWithin, limit_of}
use Rattle.suit_top.specs.Dues.{Due, silent}

-- what is owed for a command, if the words form one, and an input
abbrev pub due_for : Option Command → Text → Due
due_for None input = silent Usage
due_for (Some command) input =
    if nat_lt (limit_of command) (length input) then silent Long else due_within command input

-- what is owed for the words after the program's name and an input
abbrev pub due : List Text → Text → Due
due words input = due_for (command_of words) input

-- a text may be written for a command and an input
abbrev pub IsOwedText : Option Command → Text → Text → Type 0
IsOwedText None input text = text ≡ []
IsOwedText (Some command) input text =
    MatchBool (nat_lt (limit_of command) (length input)) (text ≡ []) (IsOwedWithin command input text)

-- a run with these words and this input owes this status with this text: the status is the one that is due, and so is
-- the text, but that a line of `table` may tell that memory was wanted
pub record Owes (words : List Text) (input : Text) (status : Status) (text : Text) : Type 0 where
  pub status_due : status ≡ (due words input).status
  pub text_due : IsOwedText (command_of words) input text
