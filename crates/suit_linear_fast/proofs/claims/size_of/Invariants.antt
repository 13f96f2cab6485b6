use Rattle.suit_linear_fast.proofs.ClaimSums.{IsWithin}
use Rattle.suit_linear_fast.proofs.claims.size_of.Given as goal

abbrev pub invariant-loop-number : goal.invariant-loop-number
invariant-loop-number l = IsWithin l.numbers l.number-index l.size
