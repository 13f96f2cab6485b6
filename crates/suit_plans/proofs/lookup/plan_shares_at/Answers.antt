use Rattle.std.proofs.Common.{◌∙◌, sym, ap, List, Option, option_map, Bool, true, false}
use Rattle.suit_classes.specs.declared.class_moves.ClassMove.{ClassMove}
use Rattle.suit_plans.specs.declared.plan.Row.{Row}
use Rattle.suit_plans.specs.Masses.{Shares, plan_shares_at}
use Rattle.suit_plans.specs.Orders.{history_before, plan_row_before, same_class_history}
use Rattle.suit_plans.proofs.RowOfAKey.{found_none, found_row}
use Rattle.suit_plans.proofs.KeyOrder.{Keyed-histories}
use Rattle.suit_plans.proofs.lookup.plan_shares_at.Goals as goal
use Rattle.suit_classes.specs.ClassMoves.{ClassHistory}

abbrev counts_of : Option Row → Option Shares
counts_of row = option_map (λ (row : Row). row.counts) row

abbrev earlier : ClassHistory → Row → Bool
earlier history row = history_before row.history history

abbrev here : ClassHistory → Row → Bool
here history row = same_class_history row.history history

pub returns-in_err-row : goal.returns-in_err-row
unfolding plan_shares_at
returns-in_err-row c =
    let history = c.args.history.now in
    rw c.from_residual.ensures
    (sym (ap counts_of (found_none plan_row_before (earlier history) (here history) c.args.rows.now c.plan_place.result
    (Keyed-histories history) c.plan_place.ensures c.in_err-row.ensures.lookup.3)))

pub returns-then-is_same_history : goal.returns-then-is_same_history
unfolding plan_shares_at
returns-then-is_same_history c =
    let history = c.args.history.now in
    sym (ap counts_of
    (found_row plan_row_before (earlier history) (here history) c.args.rows.now c.plan_place.result c.in_ok-row.row.now
    true (Keyed-histories history) c.requires c.plan_place.ensures
    c.in_ok-row.ensures.lookup.3.0 c.in_ok-row.ensures.lookup.1 (c.if-is_same_history.ensures
    ∙ ap (λ (h : ClassHistory). same_class_history h history) c.items.ensures)))

pub returns-else-is_same_history : goal.returns-else-is_same_history
unfolding plan_shares_at
returns-else-is_same_history c =
    let history = c.args.history.now in
    sym (ap counts_of
    (found_row plan_row_before (earlier history) (here history) c.args.rows.now c.plan_place.result c.in_ok-row.row.now
    false (Keyed-histories history) c.requires c.plan_place.ensures
    c.in_ok-row.ensures.lookup.3.0 c.in_ok-row.ensures.lookup.1 (c.if-is_same_history.ensures
    ∙ ap (λ (h : ClassHistory). same_class_history h history) c.items.ensures)))
