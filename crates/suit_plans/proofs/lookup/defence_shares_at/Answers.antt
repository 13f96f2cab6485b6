use Rattle.std.proofs.Common.{sym, ap, ◌&&◌, bytes_eq, List, Option, option_map, Bool, true, false}
use Rattle.suit_cards.specs.Cards.{ClassLayout}
use Rattle.suit_classes.specs.declared.class_moves.ClassMove.{ClassMove}
use Rattle.suit_plans.specs.declared.defence.DefenceRow.{DefenceRow}
use Rattle.suit_plans.specs.Masses.{Shares, defence_shares_at}
use Rattle.suit_plans.specs.Orders.{defence_row_before, key_before, same_class_history}
use Rattle.suit_plans.proofs.RowOfAKey.{found_none, found_row}
use Rattle.suit_plans.proofs.KeyOrder.{Keyed-defences}
use Rattle.suit_plans.proofs.lookup.defence_shares_at.Goals as goal
use Rattle.suit_classes.specs.ClassMoves.{ClassHistory}

abbrev counts_of : Option DefenceRow → Option Shares
counts_of row = option_map (λ (row : DefenceRow). row.counts) row

abbrev earlier : ClassLayout → ClassHistory → DefenceRow → Bool
earlier counts history row = key_before row.west row.history counts history

abbrev here : ClassLayout → ClassHistory → DefenceRow → Bool
here counts history row = bytes_eq row.west counts && same_class_history row.history history

pub returns-in_err-row : goal.returns-in_err-row
unfolding defence_shares_at
returns-in_err-row c =
    let counts = c.args.counts.now in
    let history = c.args.history.now in
    rw c.from_residual.ensures
    (sym (ap counts_of
    (found_none defence_row_before (earlier counts history) (here counts history) c.args.rows.now c.defence_place.result
    (Keyed-defences counts history) c.defence_place.ensures c.in_err-row.ensures.lookup.3)))

pub returns-then-is_row_of : goal.returns-then-is_row_of
unfolding defence_shares_at
returns-then-is_row_of c =
    let counts = c.args.counts.now in
    let history = c.args.history.now in
    sym (ap counts_of
    (found_row defence_row_before (earlier counts history) (here counts history) c.args.rows.now c.defence_place.result
    c.in_ok-row.row.now true (Keyed-defences counts history) c.requires c.defence_place.ensures
    c.in_ok-row.ensures.lookup.3.0 c.in_ok-row.ensures.lookup.1 c.if-is_row_of.ensures))

pub returns-else-is_row_of : goal.returns-else-is_row_of
unfolding defence_shares_at
returns-else-is_row_of c =
    let counts = c.args.counts.now in
    let history = c.args.history.now in
    sym (ap counts_of
    (found_row defence_row_before (earlier counts history) (here counts history) c.args.rows.now c.defence_place.result
    c.in_ok-row.row.now false (Keyed-defences counts history) c.requires c.defence_place.ensures
    c.in_ok-row.ensures.lookup.3.0 c.in_ok-row.ensures.lookup.1 c.if-is_row_of.ensures))
