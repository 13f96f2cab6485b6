-- When a run ends as it owes: where no port fails it does, but for want of memory.
use Rattle.std.specs.Prelude.{◌≡◌, ◌⊎◌, ℕ, ◌+◌, ◌-◌, ◌^◌, ◌<◌, ◌≤◌, List, [], ◌∷◌, codes, length}
use Rattle.std.specs.Prelude.{MatchBool, Some, Ok}
use Rattle.suit_cards.specs.Cards.{Text}
use Rattle.suit_game.specs.declared.question.Question.{Question}
use Rattle.suit_answer.specs.declared.answer.Answer.{Answer}
use Rattle.suit_ports.specs.Bytes.{Bytes}
use Rattle.suit_ports.specs.PortCounts.{Rose}
use Rattle.suit_question.specs.Reading.{question_read}
use Rattle.suit_solve.specs.Fates.{fate}
use Rattle.suit_top.specs.declared.commands.TheConstants.{MOST_INPUT}
use Rattle.suit_top.specs.declared.status.Status.{Status}
use Rattle.suit_top.specs.declared.status.Status.TheVariants.{Done, Memory}
use Rattle.suit_top.specs.Commands.{command_of, words_read}
use Rattle.suit_top.specs.Owing.{due, IsOwedText}
use Rattle.suit_top.specs.Runs.{Ports, Runs}

-- no count of faults or of empty puts rose
pub record NoneRose (before after : Ports) : Type 0 where
  pub source : Rose before.source_faults after.source_faults → ⊥
  pub sink : Rose before.sink_faults after.sink_faults → ⊥
  pub puts : Rose before.empty_puts after.empty_puts → ⊥

-- the input of a run over a source that tells its bytes: those, or none for words that read none
abbrev pub IsToldInput : List Text → Ports → Text → Type 0
IsToldInput words before input = MatchBool (words_read (command_of words)) (before.left ≡ Some input) (input ≡ [])

-- then a run ends with the status that is due, or memory was wanted
abbrev pub RunsComplete : Type 0
RunsComplete = (words : List Text) (input : Text) (before after : Ports) (status : Status)
    → Runs words before after status → NoneRose before after → IsToldInput words before input
    → (status ≡ (due words input).status) ⊎ (status ≡ Memory)

-- so `solve` ends with Done for the text of a question that has an answer
abbrev pub SolvesComplete : Type 0
SolvesComplete = (input : Text) (question : Question) (answer : Answer) (before after : Ports) (status : Status)
    → Runs (codes "solve" ∷ []) before after status → NoneRose before after → before.left ≡ Some input
    → length input ≤ MOST_INPUT → question_read input ≡ Ok question → fate question ≡ Ok answer
    → (status ≡ Done) ⊎ (status ≡ Memory)

-- ports that never fail, with room for whatever text may be written
pub record AreSure (words : List Text) (input : Text) (before after : Ports) : Type 0 where
  pub read : IsToldInput words before input
  pub source_before : before.source_faults ≡ 0
  pub source_after : after.source_faults ≡ 0
  pub sink_before : before.sink_faults ≡ 0
  pub sink_after : after.sink_faults ≡ 0
  pub puts : before.empty_puts < 2 ^ 64 - 1
  pub bytes : Bytes
  pub written : before.written ≡ Some bytes
  pub room : ℕ
  pub holds : before.room ≡ Some room
  pub enough : (text : Text) → IsOwedText (command_of words) input text → length bytes + length text ≤ room

-- over them each run ends so
abbrev pub SureRunsComplete : Type 0
SureRunsComplete = (words : List Text) (input : Text) (before after : Ports) (status : Status)
    → Runs words before after status → AreSure words input before after
    → (status ≡ (due words input).status) ⊎ (status ≡ Memory)
