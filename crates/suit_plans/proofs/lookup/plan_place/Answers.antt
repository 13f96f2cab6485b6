use Rattle.std.proofs.Common.{rules}
use Rattle.std.proofs.lemmas.List.Sorted.{IsPartitionPoint-from_clause}
use Rattle.suit_plans.specs.declared.plan.Row.{Row}
use Rattle.suit_plans.specs.Orders.{history_before, plan_row_before, same_class_history}
use Rattle.suit_plans.proofs.RowOfAKey.{parted_by}
use Rattle.suit_plans.proofs.KeyOrder.{Keyed-histories}
use Rattle.suit_plans.proofs.lookup.plan_place.Goals as goal

pub returns : goal.returns
returns c =
    let earlier = λ (row : Row). history_before row.history c.args.history.now in
    let parted = parted_by plan_row_before earlier (λ (row : Row). same_class_history row.history c.args.history.now)
    c.args.rows.now (Keyed-histories c.args.history.now) c.requires in
    IsPartitionPoint-from_clause earlier _ _ c.partition_point.ensures.partitioned parted (λ a r q k. search rules)
