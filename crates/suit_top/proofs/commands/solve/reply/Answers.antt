use Rattle.std.proofs.Common.{◌∙◌}
use Rattle.suit_top.proofs.FatesAreCertified.{solved}
use Rattle.suit_top.proofs.commands.solve.reply.Goals as goal

pub returns-in_ok-answer_text-in-Ok-clause-says : goal.returns-in_ok-answer_text-in-Ok-clause-says
returns-in_ok-answer_text-in-Ok-clause-says c = λ done.
    solved c.args.question.now _ c.in-Ok.answer c.requires c.in-Ok.ensures.answer
    (c.written.ensures.text ∙ c.in_ok-answer_text-in-Ok.ensures.text)
