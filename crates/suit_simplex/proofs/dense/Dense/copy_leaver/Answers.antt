use Rattle.std.proofs.Common.{refl}
use Rattle.suit_simplex.specs.Dense.{seen}
use Rattle.suit_simplex.proofs.dense.Dense.copy_leaver.Goals as goal

pub returns-clause-same : goal.returns-clause-same
unfolding seen
returns-clause-same c = refl
