-- What is told of a record: a line with its number, a word and a detail.
use Rattle.std.specs.Prelude.{ℕ, [], ◌∷◌, ◌++◌, codes, decimal}
use Rattle.std.specs.Fmt.{signed_decimal}
use Rattle.csv.specs.Writing.{default_writer, row_text}
use Rattle.suit_cards.specs.Cards.{Text}
use Rattle.suit_num.specs.declared.limits.TheConstants.{MOST_BITS}
use Rattle.suit_game.specs.declared.limits.TheConstants.{MOST_SUPPORT}
use Rattle.suit_game.specs.declared.question.Question.{Question}
use Rattle.suit_question.specs.Faults.{fault_number}
use Rattle.suit_question.specs.declared.faults.QuestionKind.{QuestionKind}
use Rattle.suit_table.specs.declared.outcomes.Outcome.{Outcome}
use Rattle.suit_table.specs.declared.outcomes.Outcome.TheVariants.{Value, Nodes, Support, Pivots, Wide, Memory}

-- which outcomes fit which questions
abbrev pub Fit : Type 1
Fit = Question → Outcome → Type 0

-- the line of a record: three fields as `csv` writes them
abbrev pub line : ℕ → Text → Text → Text
line number word detail = row_text default_writer (decimal number ∷ word ∷ detail ∷ [])

-- the word of an outcome
abbrev pub word_of : Outcome → Text
word_of (Value value) = codes "value"
word_of Nodes = codes "nodes"
word_of Support = codes "support"
word_of Pivots = codes "pivots"
word_of Wide = codes "wide"
word_of Memory = codes "memory"

-- its detail: the value, the budget of the question that was passed, a limit of solving, or 0
abbrev pub detail_of : Question → Outcome → Text
detail_of question (Value value) = signed_decimal value.num ++ codes "/" ++ signed_decimal value.den
detail_of question Nodes = decimal question.nodes
detail_of question Support = decimal MOST_SUPPORT
detail_of question Pivots = decimal question.pivots
detail_of question Wide = decimal MOST_BITS
detail_of question Memory = decimal 0

-- the line of a record whose question has this outcome
abbrev pub outcome_line : ℕ → Question → Outcome → Text
outcome_line number question outcome = line number (word_of outcome) (detail_of question outcome)

-- the line of a record with a fault of this kind
abbrev pub fault_line : ℕ → QuestionKind → Text
fault_line number kind = line number (codes "malformed") (decimal (fault_number kind))
