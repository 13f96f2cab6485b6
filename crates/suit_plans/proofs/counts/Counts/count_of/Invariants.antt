use Rattle.std.proofs.Common.{◌≡◌, drop}
use Rattle.suit_plans.specs.Masses.{count_of}
use Rattle.suit_plans.proofs.counts.Counts.count_of.Given as goal

abbrev pub invariant-loop-count : goal.invariant-loop-count
invariant-loop-count l = count_of (drop l.count-index l.count-items) l.fn.mv ≡ count_of l.count-items l.fn.mv
