use Rattle.std.proofs.Common.{length}
use Rattle.suit_program.proofs.supports.mark.Mark.+add.Given as goal

abbrev pub decreases-add : goal.decreases-add
decreases-add l = length l.moves.now
