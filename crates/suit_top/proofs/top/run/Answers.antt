use Rattle.std.proofs.Common.{sym, ◌∙◌}
use Rattle.suit_top.proofs.RunsEndAsOwed.{run_none, run_replies}
use Rattle.suit_top.proofs.top.run.Goals as goal

pub returns-in-Ok-clause-clause : goal.returns-in-Ok-clause-clause
returns-in-Ok-clause-clause g c =
    run_replies _ c.in-Some.command _ _ c.in-Ok.reply c.deliver.result
    (sym c.of.ensures.command ∙ c.in-Some.is) c.in-Ok.ensures.reply
    c.deliver.ensures.ending c.deliver.ensures.room_kept c.deliver.ensures.empty_puts

pub returns-in_default-clause-clause : goal.returns-in_default-clause-clause
returns-in_default-clause-clause g c = run_none _ _ (sym c.of.ensures.command ∙ c.in_default.is)
