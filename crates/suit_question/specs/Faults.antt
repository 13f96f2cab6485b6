-- The numbers by which faults of a question are told.
use Rattle.std.specs.Prelude.{ℕ}
use Rattle.suit_question.specs.declared.faults.QuestionKind.{QuestionKind}
use Rattle.suit_question.specs.declared.faults.QuestionKind.TheVariants.{NoLine, Word, Repeated, Rank, Twice, Shared}
use Rattle.suit_question.specs.declared.faults.QuestionKind.TheVariants.{Empty, Number, Range, Vacant, NoLayout, Tail}

-- the number of a kind of fault
abbrev pub fault_number : QuestionKind → ℕ
fault_number NoLine = 1
fault_number Word = 2
fault_number Repeated = 3
fault_number Rank = 4
fault_number Twice = 5
fault_number Shared = 6
fault_number Empty = 7
fault_number Number = 8
fault_number Range = 9
fault_number Vacant = 10
fault_number NoLayout = 11
fault_number Tail = 12
