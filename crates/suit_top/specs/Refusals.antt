-- The one line that a refusal writes.
use Rattle.std.specs.Prelude.{ℕ, ◌++◌, codes, decimal, unsigned_abs}
use Rattle.suit_cards.specs.Cards.{Text}
use Rattle.suit_answer.specs.declared.faults.AnswerFault.{AnswerFault}
use Rattle.suit_answer.specs.declared.faults.AnswerFault.TheVariants as answers
use Rattle.suit_check.specs.Verdicts.{Parts}
use Rattle.suit_plans.specs.declared.faults.PlanFault.{PlanFault}
use Rattle.suit_plans.specs.declared.faults.PlanKind.{PlanKind}
use Rattle.suit_plans.specs.declared.faults.PlanKind.TheVariants as plans
use Rattle.suit_question.specs.declared.faults.QuestionFault.{QuestionFault}
use Rattle.suit_question.specs.Faults.{fault_number}

-- the number of a fault of a plan or a defence
abbrev pub plan_fault_number : PlanKind → ℕ
plan_fault_number plans.Den = 1
plan_fault_number plans.History = 2
plan_fault_number plans.Order = 3
plan_fault_number plans.Illegal = 4
plan_fault_number plans.Negative = 5
plan_fault_number plans.Sum = 6
plan_fault_number plans.Layout = 7

-- the line of a numbered fault: what has it, its number, and where it stands
abbrev pub numbered_line : Text → ℕ → Text → ℕ → Text
numbered_line what number place at = what ++ decimal number ++ place ++ decimal at ++ codes "\n"

-- the line that is written of a question text with a fault
abbrev pub malformed_line : QuestionFault → Text
malformed_line fault = numbered_line (codes "malformed ") (fault_number fault.kind) (codes " at line ") fault.line

-- the number of a fault of an answer text, and its line; no text has the fault that memory ran out
abbrev pub answer_fault_number : AnswerFault → ℕ
answer_fault_number (answers.Version line) = 1
answer_fault_number (answers.Line line) = 2
answer_fault_number (answers.Number line) = 3
answer_fault_number (answers.Move line) = 4
answer_fault_number (answers.Count line) = 5
answer_fault_number (answers.Truncated line) = 6
answer_fault_number (answers.Tail line) = 7
answer_fault_number answers.Memory = 0

abbrev pub answer_fault_place : AnswerFault → ℕ
answer_fault_place (answers.Version line) = line
answer_fault_place (answers.Line line) = line
answer_fault_place (answers.Number line) = line
answer_fault_place (answers.Move line) = line
answer_fault_place (answers.Count line) = line
answer_fault_place (answers.Truncated line) = line
answer_fault_place (answers.Tail line) = line
answer_fault_place answers.Memory = 0

-- the line that is written of an answer text with a fault
abbrev pub answer_line : AnswerFault → Text
answer_line fault =
    numbered_line (codes "not valid: answer ") (answer_fault_number fault) (codes " at line ")
    (answer_fault_place fault)

-- the line that is written of an answer whose plan is not proper
abbrev pub plan_line : PlanFault → Text
plan_line fault =
    numbered_line (codes "not valid: plan ") (plan_fault_number fault.kind) (codes " at row ") fault.row

-- and of one whose defence is not
abbrev pub defence_line : PlanFault → Text
defence_line fault =
    numbered_line (codes "not valid: defence ") (plan_fault_number fault.kind) (codes " at row ") fault.row

-- the line of a fraction that is not negative
abbrev pub fraction_line : Text → Parts → Text
fraction_line what found =
    what ++ decimal (unsigned_abs found.0) ++ codes "/" ++ decimal (unsigned_abs found.1) ++ codes "\n"

-- the lines that are written of an answer whose plan earns another least than its value, or whose defence lets declarer
-- earn another most
abbrev pub least_line : Parts → Text
least_line found = fraction_line (codes "not valid: least ") found

abbrev pub most_line : Parts → Text
most_line found = fraction_line (codes "not valid: most ") found

-- the line that is written where a tree has more nodes than the question's budget
abbrev pub nodes_line : ℕ → Text
nodes_line budget = codes "nodes " ++ decimal budget ++ codes "\n"

-- the line of what has passed a limit in a round, counted from 0
abbrev pub round_line : Text → ℕ → Text
round_line what round = what ++ codes " at round " ++ decimal round ++ codes "\n"

-- the line that is written where the program of a round's support is too large
abbrev pub size_line : ℕ → Text
size_line round = round_line (codes "support") round

-- the line that is written where the run of a round needs more pivots than the question's budget
abbrev pub pivots_line : ℕ → ℕ → Text
pivots_line budget round = round_line (codes "pivots " ++ decimal budget) round

-- the line that is written where a number of a round is too wide
abbrev pub width_line : ℕ → Text
width_line round = round_line (codes "wide") round

-- the line that is written where a record of a table, counted from 1, has more or fewer than thirteen fields
abbrev pub misfit_line : ℕ → Text
misfit_line at = codes "csv at record " ++ decimal at ++ codes "\n"
