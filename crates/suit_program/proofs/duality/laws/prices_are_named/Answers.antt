use Rattle.suit_program.proofs.lemmas.Programs.ColumnsComeOnce.{prices_are_named}
use Rattle.suit_program.proofs.duality.laws.prices_are_named.Goals as goal

pub returns : goal.returns
returns c = prices_are_named
