use Rattle.std.proofs.Common.{◌≡◌, sym, subst}
use Rattle.std.specs.Prelude.{IfOk}
use Rattle.suit_linear.specs.declared.program.Program.{Program}
use Rattle.suit_linear.specs.Ends.{Tells}
use Rattle.suit_linear.specs.Optima.{IsDualOptimum, IsPrimalOptimum}
use Rattle.suit_linear.specs.Programs.{IsBounded, IsWellFormed}
use Rattle.suit_linear.specs.Runs.{run_end}
use Rattle.suit_linear.specs.Sparse.{dense}
use Rattle.suit_program.specs.Supports.Marks.{support_seen}
use Rattle.suit_program.specs.Programs.{program_of}
use Rattle.suit_program.proofs.lemmas.Programs.ObjectiveIsBounded.{programs_are_bounded}
use Rattle.suit_program.proofs.lemmas.Programs.WellFormed.{programs_are_well_formed}
use Rattle.suit_solve.proofs.round.run.Goals as goal

pub sparse_optimum-requires-clause-formed : goal.sparse_optimum-requires-clause-formed
sparse_optimum-requires-clause-formed c =
    let is : dense c.in_ok-program.program ≡ program_of c.args.question.now
    (support_seen c.args.question.now c.args.support.now) =
    c.in_ok-program.ensures (record {
      question = c.args.question.now;
      valid = c.requires.valid;
      grown = c.requires.grown;
      few = c.requires.few;
    }) in
    subst IsWellFormed (sym is) (programs_are_well_formed c.args.question.now
    (support_seen c.args.question.now c.args.support.now) c.requires.valid)

pub sparse_optimum-requires-clause-bounded : goal.sparse_optimum-requires-clause-bounded
sparse_optimum-requires-clause-bounded c =
    let is : dense c.in_ok-program.program ≡ program_of c.args.question.now
    (support_seen c.args.question.now c.args.support.now) =
    c.in_ok-program.ensures (record {
      question = c.args.question.now;
      valid = c.requires.valid;
      grown = c.requires.grown;
      few = c.requires.few;
    }) in
    subst IsBounded (sym is) (programs_are_bounded c.args.question.now
    (support_seen c.args.question.now c.args.support.now) c.requires.valid)

pub returns-clause-run : goal.returns-clause-run
returns-clause-run c =
    let is : dense c.in_ok-program.program ≡ program_of c.args.question.now
    (support_seen c.args.question.now c.args.support.now) =
    c.in_ok-program.ensures (record {
      question = c.args.question.now;
      valid = c.requires.valid;
      grown = c.requires.grown;
      few = c.requires.few;
    }) in
    subst (λ (program : Program). Tells program (run_end program c.args.pivots) c.sparse_optimum.result) is
    c.sparse_optimum.ensures.run

pub returns-clause-primal : goal.returns-clause-primal
returns-clause-primal c =
    let is : dense c.in_ok-program.program ≡ program_of c.args.question.now
    (support_seen c.args.question.now c.args.support.now) =
    c.in_ok-program.ensures (record {
      question = c.args.question.now;
      valid = c.requires.valid;
      grown = c.requires.grown;
      few = c.requires.few;
    }) in
    subst (λ (program : Program). IfOk c.sparse_optimum.result (IsPrimalOptimum program)) is
    c.sparse_optimum.ensures.primal

pub returns-clause-dual : goal.returns-clause-dual
returns-clause-dual c =
    let is : dense c.in_ok-program.program ≡ program_of c.args.question.now
    (support_seen c.args.question.now c.args.support.now) =
    c.in_ok-program.ensures (record {
      question = c.args.question.now;
      valid = c.requires.valid;
      grown = c.requires.grown;
      few = c.requires.few;
    }) in
    subst (λ (program : Program). IfOk c.sparse_optimum.result (IsDualOptimum program)) is
    c.sparse_optimum.ensures.dual
