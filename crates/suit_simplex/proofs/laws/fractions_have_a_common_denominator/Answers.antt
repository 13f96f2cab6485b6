use Rattle.suit_linear.proofs.CommonDenominators.{common_denominator}
use Rattle.suit_simplex.proofs.laws.fractions_have_a_common_denominator.Goals as goal

pub returns : goal.returns
returns c = common_denominator
