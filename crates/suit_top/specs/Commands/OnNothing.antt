-- The commands that read nothing: their words say all.
use Rattle.std.specs.Prelude.{List, Option, option_map}
use Rattle.std.specs.Option.{option_or}
use Rattle.suit_cards.specs.Cards.{Text}
use Rattle.suit_top.specs.declared.commands.on_nothing.BareCommand.{BareCommand}
use Rattle.suit_top.specs.declared.commands.on_nothing.BareCommand.TheVariants.{Make, Trial}
use Rattle.suit_top.specs.Commands.Made.{IsMade}
use Rattle.suit_top.specs.Commands.Make.{made_by_words, made_text}
use Rattle.suit_top.specs.Commands.Trial.{tried_by_words, trial_text}

-- the command that the words after the program's name form, if they form one of these
abbrev pub bare_command_of : List Text → Option BareCommand
bare_command_of words = option_or (option_map Make (made_by_words words)) (option_map Trial (tried_by_words words))

-- what holds of such a command: a made table has as many records as it may
abbrev pub IsBareCommand : BareCommand → Type 0
IsBareCommand (Make made) = IsMade made
IsBareCommand (Trial made) = IsMade made

-- the text that is owed, with Done
abbrev pub bare_text : BareCommand → Text
bare_text (Make made) = made_text made
bare_text (Trial made) = trial_text made
