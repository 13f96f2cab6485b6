use Rattle.std.proofs.Common.{◌∙◌}
use Rattle.suit_lift.proofs.SameCards.{eq_same_card}
use Rattle.suit_lift.proofs.merges.is_same.Goals as goal

pub returns : goal.returns
returns c = c.eq.ensures ∙ eq_same_card c.args.here.now c.args.there.now
