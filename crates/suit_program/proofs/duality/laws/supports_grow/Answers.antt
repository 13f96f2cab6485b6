use Rattle.suit_program.proofs.lemmas.Duality.ReadingsMeet.{supports_grow}
use Rattle.suit_program.proofs.duality.laws.supports_grow.Goals as goal

pub returns : goal.returns
returns c = supports_grow
