use Rattle.suit_simplex.proofs.OneOptimum.{one_answer}
use Rattle.suit_simplex.proofs.laws.runs_end_in_one_way.Goals as goal

pub returns : goal.returns
returns c = one_answer
