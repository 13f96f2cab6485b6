use Rattle.std.proofs.Common.{[]}
use Rattle.suit_lift.proofs.lifts.declarers_moves.Goals as goal

pub returns-in-Declarer : goal.returns-in-Declarer
returns-in-Declarer c question history at =
    c.follows.ensures.legal question [] history c.in-Declarer.seat at c.in-Declarer.ensures.trick.0
    (c.hand.ensures question [] history at)
