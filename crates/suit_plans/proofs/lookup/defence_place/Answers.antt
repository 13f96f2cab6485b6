use Rattle.std.proofs.Common.{rules, bytes_eq, ◌&&◌}
use Rattle.std.proofs.lemmas.List.Sorted.{IsPartitionPoint-from_clause}
use Rattle.suit_plans.specs.declared.defence.DefenceRow.{DefenceRow}
use Rattle.suit_plans.specs.Orders.{defence_row_before, key_before, same_class_history}
use Rattle.suit_plans.proofs.RowOfAKey.{parted_by}
use Rattle.suit_plans.proofs.KeyOrder.{Keyed-defences}
use Rattle.suit_plans.proofs.lookup.defence_place.Goals as goal

pub returns : goal.returns
returns c =
    let earlier = λ (row : DefenceRow). key_before row.west row.history c.args.counts.now c.args.history.now in
    let parted = parted_by defence_row_before earlier (λ (row : DefenceRow). bytes_eq row.west c.args.counts.now
    && same_class_history row.history c.args.history.now) c.args.rows.now
    (Keyed-defences c.args.counts.now c.args.history.now) c.requires in
    IsPartitionPoint-from_clause earlier _ _ c.partition_point.ensures.partitioned parted (λ a r q k. search rules)
