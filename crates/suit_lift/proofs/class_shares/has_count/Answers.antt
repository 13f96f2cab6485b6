use Rattle.std.proofs.Common.{refl}
use Rattle.suit_lift.proofs.NoMoveHasACount.{none_without}
use Rattle.suit_lift.proofs.class_shares.has_count.Goals as goal

pub returns-in-None : goal.returns-in-None
returns-in-None c = rw c.in-None.is (rw (none_without c.args.moves.now) refl)
