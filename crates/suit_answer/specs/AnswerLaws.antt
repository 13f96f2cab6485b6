-- What holds of all answers, plans and defences, and of their texts.
use Rattle.std.specs.Prelude.{◌≡◌, Ok}
use Rattle.suit_cards.specs.Cards.{Text}
use Rattle.suit_game.specs.declared.question.Question.{Question}
use Rattle.suit_plans.specs.declared.plan.Plan.{Plan}
use Rattle.suit_plans.specs.declared.defence.Defence.{Defence}
use Rattle.suit_answer.specs.Alone.{plan_read, defence_read, plan_text_of, defence_text_of}
use Rattle.suit_answer.specs.Reading.{answer_read}
use Rattle.suit_answer.specs.Writable.{IsWritable, IsWritablePlanFor, IsWritableDefenceFor}
use Rattle.suit_answer.specs.Writing.{text_of}
use Rattle.suit_answer.specs.declared.answer.Answer.{Answer}

-- a text that is read is the one that its answer is written as, and that answer can be written
abbrev pub ReadTextsAreWritten : Type 0
ReadTextsAreWritten =
    (question : Question) (text : Text) (answer : Answer) → answer_read question text ≡ Ok answer
    → (text ≡ text_of question answer) × IsWritable question answer

-- what is written of an answer that can be written is read as it
abbrev pub WrittenTextsAreRead : Type 0
WrittenTextsAreRead =
    (question : Question) (answer : Answer) → IsWritable question answer
    → answer_read question (text_of question answer) ≡ Ok answer

-- both hold of a plan alone
abbrev pub ReadPlansAreWritten : Type 0
ReadPlansAreWritten =
    (question : Question) (text : Text) (plan : Plan) → plan_read question text ≡ Ok plan
    → (text ≡ plan_text_of question plan) × IsWritablePlanFor question plan

abbrev pub WrittenPlansAreRead : Type 0
WrittenPlansAreRead =
    (question : Question) (plan : Plan) → IsWritablePlanFor question plan
    → plan_read question (plan_text_of question plan) ≡ Ok plan

-- and of a defence alone
abbrev pub ReadDefencesAreWritten : Type 0
ReadDefencesAreWritten =
    (question : Question) (text : Text) (defence : Defence) → defence_read question text ≡ Ok defence
    → (text ≡ defence_text_of question defence) × IsWritableDefenceFor question defence

abbrev pub WrittenDefencesAreRead : Type 0
WrittenDefencesAreRead =
    (question : Question) (defence : Defence) → IsWritableDefenceFor question defence
    → defence_read question (defence_text_of question defence) ≡ Ok defence
