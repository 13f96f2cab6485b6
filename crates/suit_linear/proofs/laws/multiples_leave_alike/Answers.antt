use Rattle.suit_linear.proofs.Multiples.{leaving_same}
use Rattle.suit_linear.proofs.laws.multiples_leave_alike.Goals as goal

pub returns : goal.returns
returns c = leaving_same
