-- Holds after some records: they are read, and the others are still to be read.
use Rattle.std.proofs.Common.{◌≡◌, ◌+◌, ◌++◌, drop, map}
use Rattle.std.specs.Prelude.{All, IfOk}
use Rattle.csv.specs.Records.{fields_of}
use Rattle.suit_game.specs.Validity.{IsValid}
use Rattle.suit_table.specs.Entries.{entries_from}
use Rattle.suit_table.proofs.tables.entries_of.Given as goal

abbrev pub invariant-loop-fields : goal.invariant-loop-fields
invariant-loop-fields l = record {
  number : l.number ≡ l.fields-index + 1;
  read : entries_from 1 (map fields_of l.fn.records)
      ≡ l.entries.items ++ entries_from l.number (map fields_of (drop l.fields-index l.records));
  valid : All (λ entry. IfOk entry.read IsValid) l.entries.items;
}
