use Rattle.suit_linear_fast.proofs.ClaimSums.{IsSharedBelow}
use Rattle.suit_linear_fast.proofs.claims.share_out.Given as goal

abbrev pub invariant-loop-index : goal.invariant-loop-index
invariant-loop-index l = IsSharedBelow l.lines l.entries l.scale l.index l.shares
