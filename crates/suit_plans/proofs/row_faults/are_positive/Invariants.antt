use Rattle.std.proofs.Common.{◌≡◌, drop, int_le, pos}
use Rattle.std.specs.List.{list_all}
use Rattle.suit_plans.proofs.row_faults.are_positive.Given as goal

abbrev pub invariant-loop-count : goal.invariant-loop-count
invariant-loop-count l = list_all (λ count. int_le (pos 0) count.1) (drop l.count-index l.shares)
    ≡ list_all (λ count. int_le (pos 0) count.1) l.shares
