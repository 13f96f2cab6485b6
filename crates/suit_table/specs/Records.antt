-- The records of a table.
use Rattle.std.specs.Prelude.{ℕ, suc, ◌==◌, not, Bool, List, length, position, Option, option_map}
use Rattle.csv.specs.Reading.{default_config, records, strip_bom}
use Rattle.suit_cards.specs.Cards.{Text}
use Rattle.suit_table.specs.declared.records.TheConstants.{FIELDS}

-- a record: the texts of its fields
abbrev pub Record : Type 0
Record = List Text

-- the records of a text as `csv` reads them, without a header: a byte order mark in front and empty lines say nothing
abbrev pub records_of : Text → List Record
records_of text = records default_config (strip_bom text)

-- whether a record has more or fewer fields than a question has columns
abbrev pub is_misfit : Record → Bool
is_misfit fields = not (length fields == FIELDS)

-- the number, counted from 1, of the first record that has, if one has
abbrev pub first_misfit : List Record → Option ℕ
first_misfit records = option_map suc (position is_misfit records)
