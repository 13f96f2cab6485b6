use Rattle.std.proofs.Common.{length}
use Rattle.suit_layouts.proofs.class_weights.+ways.Given as goal

abbrev pub decreases-ways : goal.decreases-ways
decreases-ways l = length l.sizes.now
