use Rattle.std.proofs.Common.{◌≡◌, sym, subst}
use Rattle.std.specs.Prelude.{IfOk, IfSome}
use Rattle.suit_linear.specs.declared.program.Program.{Program}
use Rattle.suit_linear.specs.Programs.{IsWellFormed}
use Rattle.suit_linear.specs.Runs.{run_end}
use Rattle.suit_linear.specs.Ends.{Tells}
use Rattle.suit_linear.specs.Sparse.{dense}
use Rattle.suit_simplex.proofs.solving.quick.Goals as goal

pub fast-requires : goal.fast-requires
fast-requires c =
    let same : dense c.in-Some.sparse ≡ c.args.program.now = rw c.in-Some.is at c.in_ok-sparse.ensures in
    subst IsWellFormed (sym same) c.requires

pub returns : goal.returns
returns c =
    let same : dense c.in-Some.sparse ≡ c.args.program.now = rw c.in-Some.is at c.in_ok-sparse.ensures in
    subst (λ (p : Program). IfOk c.fast.result (λ answer. IfSome answer (Tells p (run_end p c.args.pivots)))) same
    c.fast.ensures
