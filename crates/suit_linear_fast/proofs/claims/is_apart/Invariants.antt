use Rattle.suit_linear_fast.proofs.ClaimSums.{IsApartBelow}
use Rattle.suit_linear_fast.proofs.claims.is_apart.Given as goal

abbrev pub invariant-loop-index : goal.invariant-loop-index
invariant-loop-index l = IsApartBelow l.lines l.leaving l.numbers l.index
