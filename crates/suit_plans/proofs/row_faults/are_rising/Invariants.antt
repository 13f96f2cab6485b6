use Rattle.suit_plans.specs.Properness.{moves_of}
use Rattle.suit_plans.proofs.StillToLookAt.{HasRisen}
use Rattle.suit_plans.proofs.row_faults.are_rising.Given as goal

abbrev pub invariant-loop-index : goal.invariant-loop-index
invariant-loop-index l = HasRisen (moves_of l.shares) l.index
