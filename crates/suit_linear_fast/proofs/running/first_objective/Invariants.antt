use Rattle.std.specs.Prelude.{pos, neg_ℤ, ◌∷◌, ◌++◌, map, take, replicate}
use Rattle.suit_linear_fast.proofs.FastRuns.{IsObjectiveOf}
use Rattle.suit_linear_fast.proofs.running.first_objective.Given as goal

abbrev pub invariant-loop-cost : goal.invariant-loop-cost
invariant-loop-cost l = IsObjectiveOf (pos 1 ∷ pos 0 ∷ map neg_ℤ (take l.cost-index l.costs)) l.objective.items

abbrev pub invariant-loop-row : goal.invariant-loop-row
invariant-loop-row l = IsObjectiveOf (pos 1 ∷ pos 0 ∷ map neg_ℤ l.costs ++ replicate l.row (pos 0)) l.objective.items
