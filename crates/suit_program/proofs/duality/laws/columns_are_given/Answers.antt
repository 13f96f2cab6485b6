use Rattle.suit_program.proofs.lemmas.Programs.ColumnsComeOnce.{columns_are_given}
use Rattle.suit_program.proofs.duality.laws.columns_are_given.Goals as goal

pub returns : goal.returns
returns c = columns_are_given
