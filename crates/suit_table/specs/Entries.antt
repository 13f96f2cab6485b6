-- The records of a table as they are read.
use Rattle.std.specs.Prelude.{ℕ, suc, List, [], ◌∷◌}
use Rattle.suit_table.specs.declared.judging.Entry.{Entry}
use Rattle.suit_table.specs.Fields.{question_named}
use Rattle.suit_table.specs.Records.{Record}

-- a record with its number, and the question that it names or its fault
abbrev pub entry_of : ℕ → Record → Entry
entry_of number fields = record { number = number; read = question_named number fields }

-- the same of records that are numbered on from this number
unfoldable pub entries_from : ℕ → List Record → List Entry
entries_from number [] = []
entries_from number (fields ∷ records) = entry_of number fields ∷ entries_from (suc number) records
