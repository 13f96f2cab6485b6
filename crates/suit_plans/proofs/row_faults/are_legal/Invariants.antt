use Rattle.std.proofs.Common.{◌≡◌, drop}
use Rattle.std.specs.List.{list_all}
use Rattle.suit_classes.specs.WhatIsAllowed.{is_among}
use Rattle.suit_plans.proofs.row_faults.are_legal.Given as goal

abbrev pub invariant-loop-count : goal.invariant-loop-count
invariant-loop-count l = list_all (λ count. is_among l.legal count.0) (drop l.count-index l.shares)
    ≡ list_all (λ count. is_among l.legal count.0) l.shares
