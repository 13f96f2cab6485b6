use Rattle.std.proofs.Common.{subst, sym}
use Rattle.suit_cards.specs.Cards.{Text}
use Rattle.suit_top.specs.Commands.Table.{IsTextTabled}
use Rattle.suit_top.proofs.ShownTablesAreDue.{tabled_text}
use Rattle.suit_top.proofs.commands.table.reply.Goals as goal

pub returns-in-Ok-clause-text : goal.returns-in-Ok-clause-text
returns-in-Ok-clause-text g c =
    subst (λ (l : Text). IsTextTabled c.args.input.now l) (sym c.written.ensures.text)
    (tabled_text c.args.input.now c.in-Ok.text.items c.in-Ok.ensures.lines)
