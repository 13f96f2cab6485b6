-- `solved`: the answer of a question is certified.
use Rattle.std.proofs.Common.{◌≡◌, Ok, Err}
use Rattle.suit_cards.specs.Cards.{Text}
use Rattle.suit_game.specs.declared.question.Question.{Question}
use Rattle.suit_game.specs.Validity.{IsValid}
use Rattle.suit_answer.specs.declared.answer.Answer.{Answer}
use Rattle.suit_answer.specs.Writing.{text_of}
use Rattle.suit_check.specs.VerdictLaws.{IsMet}
use Rattle.suit_solve.specs.declared.ends.SolveEnd.TheVariants as ends
use Rattle.suit_solve.specs.Fates.{Fate, fate}
use Rattle.suit_solve.proofs.FatesTold.{answers_are_shown}
use Rattle.suit_top.specs.declared.status.Status.TheVariants.{Usage}
use Rattle.suit_top.specs.Commands.Solve.{Answers, due_of_fate}
use Rattle.suit_top.proofs.ValidIsCertified.{met_certified}

-- the answer of a question is met by its plan and its defence
pub fate_met : (question : Question) (answer : Answer) → IsValid question → fate question ≡ Ok answer
    → IsMet question answer
fate_met question answer valid is =
    let shown = answers_are_shown question answer valid is in
    record { plan = shown.plan; defence = shown.defence; least = shown.least; most = shown.most }

-- so its text answers the question
pub solved : (question : Question) (text : Text) (answer : Answer) → IsValid question → fate question ≡ Ok answer
    → text ≡ text_of question answer → Answers question text
solved question text answer valid is is_text =
    record {
      answer = answer;
      is_fate = is;
      certified = met_certified question answer valid (fate_met question answer valid is);
      is_text = is_text;
    }

-- no fate owes Usage
pub fate_tells : (question : Question) (found : Fate) → (due_of_fate question found).status ≡ Usage → ⊥
fate_tells question (Ok answer) usage = cc
fate_tells question (Err (ends.Nodes budget)) usage = cc
fate_tells question (Err (ends.Support round)) usage = cc
fate_tells question (Err (ends.Pivots round)) usage = cc
fate_tells question (Err (ends.Wide round)) usage = cc
fate_tells question (Err ends.Memory) usage = cc
