use Rattle.std.proofs.Common.{arith}
use Rattle.suit_game.proofs.laws.mean_law.Goals as goal

pub returns : goal.returns
returns c = λ items. omega arith
