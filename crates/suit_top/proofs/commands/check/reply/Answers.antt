use Rattle.std.proofs.Common.{sym, ◌∙◌}
use Rattle.suit_check.specs.Verdicts.{seen}
use Rattle.suit_top.proofs.ValidIsCertified.{found_checks}
use Rattle.suit_top.proofs.commands.check.reply.Goals as goal

pub returns-in-Ok-clause-says : goal.returns-in-Ok-clause-says
returns-in-Ok-clause-says g c = λ done.
    found_checks c.args.question.now c.args.answer.now (seen c.in-Ok.verdict) _ c.requires c.in-Ok.ensures.verdict
    (sym c.told.ensures.status ∙ done) c.told.ensures.text
