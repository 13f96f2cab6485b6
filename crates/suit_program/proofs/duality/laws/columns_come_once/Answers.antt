use Rattle.suit_program.proofs.lemmas.Programs.ColumnsComeOnce.{columns_come_once}
use Rattle.suit_program.proofs.duality.laws.columns_come_once.Goals as goal

pub returns : goal.returns
returns c = columns_come_once
