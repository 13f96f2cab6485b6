use Rattle.suit_top.proofs.SaidOfAnswers.{said_of_answer}
use Rattle.suit_top.proofs.commands.on_answer.AnswerCommand.with_answer.Goals as goal

pub returns-in-Ok-clause-says : goal.returns-in-Ok-clause-says
returns-in-Ok-clause-says g c =
    said_of_answer c.args.self c.args.question.now c.args.rest.now c.in-Ok.answer c.reply_about.result
    c.in-Ok.ensures.value c.reply_about.ensures.says
