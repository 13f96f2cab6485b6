use Rattle.std.proofs.Common.{rules}
use Rattle.std.proofs.lemmas.Int.{wraps}
use Rattle.suit_linear_fast.proofs.past_pivots.more.Goals as goal

pub returns : goal.returns
returns c = search (rules, wraps)
