-- Holds after some records: these are their lines.
use Rattle.std.proofs.Common.{◌≡◌, take}
use Rattle.std.specs.Prelude.{flat_map}
use Rattle.suit_table.specs.Judging.{told_line}
use Rattle.suit_table.proofs.tables.text_of.Given as goal

abbrev pub invariant-loop-one : goal.invariant-loop-one
invariant-loop-one l = l.text.items ≡ flat_map told_line (take l.one-index l.told)
