-- How a run ends, and the number that tells it to whoever started the program.
use Rattle.std.specs.Prelude.{ℕ}
use Rattle.suit_top.specs.declared.status.Status.{Status}
use Rattle.suit_top.specs.declared.status.Status.TheVariants.{Done, NotValid, Usage, Malformed, Nodes, Pivots, Wide}
use Rattle.suit_top.specs.declared.status.Status.TheVariants.{ReadFault, WriteFault, Memory, Support, Long, Csv}

-- the exit code of a status
abbrev pub code_of : Status → ℕ
code_of Done = 0
code_of NotValid = 1
code_of Usage = 2
code_of Malformed = 3
code_of Nodes = 4
code_of Pivots = 5
code_of Wide = 6
code_of ReadFault = 7
code_of WriteFault = 8
code_of Memory = 9
code_of Support = 10
code_of Long = 11
code_of Csv = 12
