use Rattle.std.proofs.Common.{◌∙◌, sym, ap, List}
use Rattle.suit_classes.specs.declared.class_moves.ClassMove.{ClassMove}
use Rattle.suit_plans.specs.declared.plan.Row.{Row}
use Rattle.suit_plans.specs.Orders.{history_before, plan_row_before}
use Rattle.suit_plans.proofs.RowsBeforeTell.{last_asked}
use Rattle.suit_plans.proofs.proper.stands_after.Goals as goal
use Rattle.suit_classes.specs.ClassMoves.{ClassHistory}

pub returns-in-len1-up : goal.returns-in-len1-up
returns-in-len1-up c =
    c.history_is_before.ensures ∙ ap (λ (h : ClassHistory). history_before h c.items-in-len1-up.result.now)
    c.items.ensures
    ∙ ap (history_before c.last-item.result.history) c.items-in-len1-up.ensures
    ∙ sym (last_asked (λ (last : Row). plan_row_before last c.args.row.now) c.args.before.now c.last-item.result
    c.in-len1-up.len_at_least c.last-item.is)
