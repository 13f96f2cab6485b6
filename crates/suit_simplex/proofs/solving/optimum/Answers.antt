use Rattle.suit_linear.specs.Runs.{run_end}
use Rattle.suit_linear.specs.Ends.{Tells}
use Rattle.suit_simplex.proofs.FastAnswers.{told_primal, told_dual}
use Rattle.suit_simplex.proofs.solving.optimum.Goals as goal

pub returns-in-Some-clause-primal : goal.returns-in-Some-clause-primal
returns-in-Some-clause-primal c =
    let told : Tells c.args.program.now (run_end c.args.program.now c.args.pivots) c.in-Some.end =
    rw c.in-Some.is at c.in_ok-end.ensures in
    told_primal c.args.program.now c.args.pivots c.requires.formed c.in-Some.end told

pub returns-in-Some-clause-dual : goal.returns-in-Some-clause-dual
returns-in-Some-clause-dual c =
    let told : Tells c.args.program.now (run_end c.args.program.now c.args.pivots) c.in-Some.end =
    rw c.in-Some.is at c.in_ok-end.ensures in
    told_dual c.args.program.now c.args.pivots c.requires.formed c.in-Some.end told
