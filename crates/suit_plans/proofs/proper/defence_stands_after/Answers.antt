use Rattle.std.proofs.Common.{◌∙◌, sym, ap}
use Rattle.suit_cards.specs.Cards.{ClassLayout}
use Rattle.suit_plans.specs.declared.defence.DefenceRow.{DefenceRow}
use Rattle.suit_plans.specs.Orders.{defence_row_before, key_before}
use Rattle.suit_plans.proofs.RowsBeforeTell.{last_asked}
use Rattle.suit_plans.proofs.proper.defence_stands_after.Goals as goal

pub returns-in-len1-up : goal.returns-in-len1-up
returns-in-len1-up c =
    c.is_row_before.ensures ∙ ap (λ (w : ClassLayout). key_before c.last-item.result.west c.last-item.result.history w
    c.items.result.now) c.counts.ensures.value
    ∙ ap (key_before c.last-item.result.west c.last-item.result.history c.args.row.now.west) c.items.ensures
    ∙ sym (last_asked (λ (last : DefenceRow). defence_row_before last c.args.row.now) c.args.before.now
    c.last-item.result c.in-len1-up.len_at_least c.last-item.is)
