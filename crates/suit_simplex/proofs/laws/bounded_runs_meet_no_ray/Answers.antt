use Rattle.suit_linear.proofs.RunSteps.{bounded_run_meets_no_ray}
use Rattle.suit_simplex.proofs.laws.bounded_runs_meet_no_ray.Goals as goal

pub returns : goal.returns
returns c = bounded_run_meets_no_ray
