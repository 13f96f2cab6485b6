-- `table`: the questions that the records of a table name, each with its outcome.
use Rattle.std.specs.Prelude.{◌≡◌, ◌⊎◌, ℕ, suc, Bool, List, [], ◌∷◌, ◌++◌, Option, Some, None, MatchOption, Result}
use Rattle.std.specs.Prelude.{Ok, Err, codes}
use Rattle.suit_num.specs.declared.fraction.Frac.{Frac}
use Rattle.suit_cards.specs.Cards.{Text}
use Rattle.suit_game.specs.declared.question.Question.{Question}
use Rattle.suit_game.specs.Validity.{IsValid}
use Rattle.suit_question.specs.declared.faults.QuestionFault.{QuestionFault}
use Rattle.suit_answer.specs.declared.answer.Answer.{Answer}
use Rattle.suit_solve.specs.declared.ends.SolveEnd.TheVariants as ends
use Rattle.suit_solve.specs.Fates.{Fate, fate}
use Rattle.suit_table.specs.Fields.{question_named}
use Rattle.suit_table.specs.Outcomes.{fault_line, outcome_line}
use Rattle.suit_table.specs.Records.{Record, first_misfit, records_of}
use Rattle.suit_table.specs.Tables.{IsTable}
use Rattle.suit_table.specs.declared.outcomes.Outcome.{Outcome}
use Rattle.suit_table.specs.declared.outcomes.Outcome.TheVariants.{Value, Nodes, Support, Pivots, Wide, Memory}
use Rattle.suit_top.specs.declared.status.Status.TheVariants.{Csv}
use Rattle.suit_top.specs.Certified.{IsCertifiedAnswer}
use Rattle.suit_top.specs.Dues.{Due, done}
use Rattle.suit_top.specs.Refusals.{misfit_line}
use Rattle.suit_top.specs.Words.{is_only}

-- the words of the command
abbrev pub is_table : List Text → Bool
is_table words = is_only (codes "table") words

-- the outcome that a fate is; no fate is want of memory
abbrev pub outcome_of : Fate → Outcome
outcome_of (Ok answer) = Value answer.value
outcome_of (Err (ends.Nodes budget)) = Nodes
outcome_of (Err (ends.Support round)) = Support
outcome_of (Err (ends.Pivots round)) = Pivots
outcome_of (Err (ends.Wide round)) = Wide
outcome_of (Err ends.Memory) = Memory

-- the outcome of a question
abbrev pub own_outcome : Question → Outcome
own_outcome question = outcome_of (fate question)

-- an outcome may be told of a question: it is the question's own, or memory was wanted
abbrev pub Fits : Question → Outcome → Type 0
Fits question outcome = (outcome ≡ own_outcome question) ⊎ (outcome ≡ Memory)

-- the line of what a record names: its question's own outcome, or its fault
abbrev pub record_line : ℕ → Result Question QuestionFault → Text
record_line number (Ok question) = outcome_line number question (own_outcome question)
record_line number (Err fault) = fault_line number fault.kind

-- the lines of records, numbered on from this number
unfoldable pub own_lines : ℕ → List Record → Text
own_lines number [] = []
own_lines number (fields ∷ records) =
    record_line number (question_named number fields) ++ own_lines (suc number) records

-- what is due for records, of which this is the first that has more or fewer fields than a question has columns
abbrev pub due_of_records : List Record → Option ℕ → Due
due_of_records records None = done (own_lines 1 records)
due_of_records records (Some at) = record { status = Csv; text = misfit_line at }

-- what is due for a table
abbrev pub due_tabling : Text → Due
due_tabling input = due_of_records (records_of input) (first_misfit (records_of input))

-- a text may be written for a table: it is what is due, but that want of memory may be told of a question in place of
-- its own outcome
abbrev pub IsTextTabled : Text → Text → Type 0
IsTextTabled input text =
    MatchOption (first_misfit (records_of input)) (IsTable Fits input text) (λ at. text ≡ misfit_line at)

-- a value is that of the answer that is a valid question's fate, and that answer is certified
pub record IsCertifiedValue (question : Question) (value : Frac) : Type 0 where
  pub valid : IsValid question
  pub answer : Answer
  pub is_fate : fate question ≡ Ok answer
  pub value_is : answer.value ≡ value
  pub certified : IsCertifiedAnswer question answer

-- what an outcome that is told shows: a value is certified, any other is the question's own, or memory was wanted
abbrev pub Shows : Question → Outcome → Type 0
Shows question (Value value) = IsCertifiedValue question value
Shows question Nodes = Nodes ≡ own_outcome question
Shows question Support = Support ≡ own_outcome question
Shows question Pivots = Pivots ≡ own_outcome question
Shows question Wide = Wide ≡ own_outcome question
Shows question Memory = Memory ≡ Memory
