use Rattle.std.proofs.Common.{sym, ◌∙◌}
use Rattle.suit_top.proofs.ValidIsTellable.{done_proper, done_tellable}
use Rattle.suit_top.proofs.commands.lines.reply.Goals as goal

pub lines_text-requires-clause-proper : goal.lines_text-requires-clause-proper
lines_text-requires-clause-proper g c =
    done_proper c.args.question.now c.args.answer.now c.requires (sym c.in_ok-checked.ensures.status ∙ c.in-Done.is)

pub lines_text-requires-clause-value : goal.lines_text-requires-clause-value
lines_text-requires-clause-value g c =
    done_tellable c.args.question.now c.args.answer.now c.requires (sym c.in_ok-checked.ensures.status ∙ c.in-Done.is)
