use Rattle.std.proofs.Common.{List, subst, ◌∙◌}
use Rattle.suit_game.specs.declared.question.Question.{Question}
use Rattle.suit_gen.specs.Deals.{deals_from}
use Rattle.suit_table.specs.Summaries.{IsSummary}
use Rattle.suit_top.specs.Commands.Table.{Shows}
use Rattle.suit_top.proofs.SummariesAreDue.{tried_text}
use Rattle.suit_top.proofs.commands.trial.reply.Goals as goal

pub returns-clause-text : goal.returns-clause-text
returns-clause-text g c =
    c.written.ensures.text
    ∙ tried_text c.in_ok-questions.questions.items (deals_from c.args.made.count c.args.made.number)
    c.in_ok-text.text.items c.in_ok-questions.ensures.named
    (subst (λ (l : List Question). IsSummary Shows l c.in_ok-text.text.items) c.deref.ensures.value
    c.in_ok-text.ensures)
