use Rattle.suit_linear.specs.Runs.{run_end}
use Rattle.suit_linear.specs.Ends.{Tells}
use Rattle.suit_linear.specs.Sparse.{dense}
use Rattle.suit_simplex.proofs.FastAnswers.{told_primal, told_dual}
use Rattle.suit_simplex.proofs.solving.sparse_optimum.Goals as goal

pub returns-in-Some-clause-primal : goal.returns-in-Some-clause-primal
returns-in-Some-clause-primal c =
    let told : Tells (dense c.args.program.now) (run_end (dense c.args.program.now) c.args.pivots) c.in-Some.end =
    rw c.in-Some.is at c.in_ok-end.ensures in
    told_primal (dense c.args.program.now) c.args.pivots c.requires.formed c.in-Some.end told

pub returns-in-Some-clause-dual : goal.returns-in-Some-clause-dual
returns-in-Some-clause-dual c =
    let told : Tells (dense c.args.program.now) (run_end (dense c.args.program.now) c.args.pivots) c.in-Some.end =
    rw c.in-Some.is at c.in_ok-end.ensures in
    told_dual (dense c.args.program.now) c.args.pivots c.requires.formed c.in-Some.end told
