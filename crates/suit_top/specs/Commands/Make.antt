-- `make`: a table of questions that a plain generator draws.
use Rattle.std.specs.Prelude.{List, Option, codes}
use Rattle.std.specs.List.{flat_map}
use Rattle.suit_cards.specs.Cards.{Text}
use Rattle.suit_gen.specs.Deals.{deals_from}
use Rattle.suit_gen.specs.Records.{record_text}
use Rattle.suit_top.specs.declared.commands.made.MadeTable.{MadeTable}
use Rattle.suit_top.specs.Commands.Made.{table_named}

-- the table that the words of the command name
abbrev pub made_by_words : List Text → Option MadeTable
made_by_words words = table_named (codes "make") words

-- the text of the table
abbrev pub made_text : MadeTable → Text
made_text made = flat_map record_text (deals_from made.count made.number)
