use Rattle.suit_program.proofs.lemmas.Programs.ColumnsComeOnce.{rows_come_once}
use Rattle.suit_program.proofs.duality.laws.rows_come_once.Goals as goal

pub returns : goal.returns
returns c = rows_come_once
