-- `said_of_answer`: what a reply says of an answer it says of the text that the answer was read from.
use Rattle.std.proofs.Common.{◌≡◌, Result, Ok, Err}
use Rattle.std.specs.Prelude.{IfOk}
use Rattle.suit_cards.specs.Cards.{Text}
use Rattle.suit_game.specs.declared.question.Question.{Question}
use Rattle.suit_answer.specs.declared.answer.Answer.{Answer}
use Rattle.suit_answer.specs.Reading.{answer_read}
use Rattle.suit_top.specs.declared.commands.on_answer.AnswerCommand.{AnswerCommand}
use Rattle.suit_top.specs.declared.reply.Reply.{Reply}
use Rattle.suit_top.specs.declared.status.Status.TheVariants.{Done}
use Rattle.suit_top.specs.Asking.{SaysOfAnswer}
use Rattle.suit_top.specs.Commands.OnAnswer.{SaysAnswered}
use Rattle.suit_top.specs.Texts.{text_bytes}

pub said_of_answer : {E : Type 0} (command : AnswerCommand) (question : Question) (rest : Text) (answer : Answer)
    (result : Result Reply E) → answer_read question rest ≡ Ok answer
    → IfOk result (λ reply. reply.status ≡ Done → SaysAnswered command question answer (text_bytes reply.text))
    → IfOk result (λ reply. reply.status ≡ Done
    → SaysOfAnswer (SaysAnswered command question) question rest (text_bytes reply.text))
said_of_answer command question rest answer (Ok reply) read says =
    λ done. record { answer = answer; read = read; says = says done }
said_of_answer command question rest answer (Err end) read says = tt
