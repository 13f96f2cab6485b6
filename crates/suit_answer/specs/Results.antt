-- One step after another, each of which can fail, and what a reader answers.
use Rattle.std.specs.Prelude.{◌≡◌, Result, Ok, Err}
use Rattle.suit_answer.specs.declared.faults.AnswerFault.{AnswerFault}
use Rattle.suit_answer.specs.declared.faults.ReadEnd.{ReadEnd}
use Rattle.suit_answer.specs.declared.faults.ReadEnd.TheVariants as ends

-- the next step, after one that did not fail
infixl 10 ◌>>=◌
abbrev pub ◌>>=◌ : {A B : Type 0} → Result A AnswerFault → (A → Result B AnswerFault) → Result B AnswerFault
(Ok found) >>= next = next found
(Err fault) >>= next = Err fault

-- a reader stopped as is due: with the fault that is due, or since memory ran out
abbrev pub Stops : {B : Type 0} → ReadEnd → Result B AnswerFault → Type 0
Stops ends.Memory due = Unit {0}
Stops (ends.Fault fault) due = due ≡ Err fault

-- a reader answers what is due, where its result is seen so
abbrev pub Gives : {A B : Type 0} → (A → B) → Result A ReadEnd → Result B AnswerFault → Type 0
Gives view (Ok found) due = due ≡ Ok (view found)
Gives view (Err stop) due = Stops stop due
