-- What is found of a record.
use Rattle.std.specs.Prelude.{◌≡◌, ℕ, Result, Ok, Err}
use Rattle.suit_cards.specs.Cards.{Text}
use Rattle.suit_game.specs.declared.question.Question.{Question}
use Rattle.suit_question.specs.declared.faults.QuestionFault.{QuestionFault}
use Rattle.suit_table.specs.declared.judging.Entry.{Entry}
use Rattle.suit_table.specs.declared.judging.Finding.{Finding}
use Rattle.suit_table.specs.declared.judging.Finding.TheVariants.{Judged, Faulty}
use Rattle.suit_table.specs.declared.judging.Told.{Told}
use Rattle.suit_table.specs.Outcomes.{Fit, fault_line, outcome_line}

-- this is found of what was read: its fault, or an outcome that fits its question
abbrev pub IsFound : Fit → Result Question QuestionFault → Finding → Type 0
IsFound Fits (Ok question) (Judged asked outcome) = (asked ≡ question) × Fits question outcome
IsFound Fits (Ok question) (Faulty kind) = ⊥
IsFound Fits (Err fault) (Judged asked outcome) = ⊥
IsFound Fits (Err fault) (Faulty kind) = kind ≡ fault.kind

-- this is told of a record: its own number, and what is found of it
pub record IsTold (Fits : Fit) (entry : Entry) (told : Told) : Type 0 where
  pub number : told.number ≡ entry.number
  pub found : IsFound Fits entry.read told.finding

-- the line of a finding
abbrev pub finding_line : ℕ → Finding → Text
finding_line number (Judged question outcome) = outcome_line number question outcome
finding_line number (Faulty kind) = fault_line number kind

abbrev pub told_line : Told → Text
told_line told = finding_line told.number told.finding
