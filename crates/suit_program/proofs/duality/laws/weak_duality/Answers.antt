use Rattle.suit_program.proofs.lemmas.Duality.WeakDuality.{weak_duality}
use Rattle.suit_program.proofs.duality.laws.weak_duality.Goals as goal

pub returns : goal.returns
returns c = weak_duality
