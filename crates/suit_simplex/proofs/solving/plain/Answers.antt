use Rattle.std.proofs.Common.{◌≡◌, ℕ, ◌∙◌, None, Ok, sym, ap, add-one, true, false, is_some}
use Rattle.std.specs.Prelude.{Option}
use Rattle.suit_linear.specs.Tableaus.{Tableau}
use Rattle.suit_linear.specs.Pivots.{entering}
use Rattle.suit_linear.specs.Runs.{AtOptimum}
use Rattle.suit_simplex.specs.Dense.{seen}
use Rattle.suit_linear.proofs.FirstTableaus.{first_is_sound}
use Rattle.suit_simplex.proofs.DenseRuns.{first_kept_run, next_kept, sound_advances}
use Rattle.suit_linear.proofs.RunSteps.{ends_last, ends_wide, ends_budget, ends_done, last_enters_none}
use Rattle.suit_linear.proofs.RunSteps.{none_from_test, tells_read, proves_primal, proves_dual}
use Rattle.suit_simplex.proofs.solving.plain.Goals as goal

pub loop-made-init : goal.loop-made-init
loop-made-init c = first_kept_run c.args.program.now c.args.pivots c.in_ok-tableau.tableau
    (first_is_sound c.args.program.now c.requires.formed) c.in_ok-tableau.ensures.kept c.in_ok-tableau.ensures.width
    c.in_ok-tableau.ensures.seen

pub advance-requires-clause-can : goal.advance-requires-clause-can
advance-requires-clause-can c =
    sound_advances c.args.program.now c.loop-made.tableau c.requires.bounded c.loop-made.invariant.running.sound
    c.loop-made.invariant.width

pub loop-made-preserved : goal.loop-made-preserved
loop-made-preserved c = next_kept c.args.program.now c.args.pivots c.loop-made.tableau c.advance.new.dense
    c.loop-made.made c.loop-made-test.true c.loop-made.invariant
    (rw c.in-Ok-Pivoted.field-0-is at c.in-Ok-Pivoted.ensures)

pub returns-in-Ok-Last-clause-run : goal.returns-in-Ok-Last-clause-run
returns-in-Ok-Last-clause-run c =
    tells_read c.args.program.now c.args.pivots (seen c.advance.new.dense) (Ok c.in_ok-read_optimum-in-Ok-Last.field-0)
    (ends_last c.args.program.now c.args.pivots (seen c.loop-made.tableau) c.loop-made.made c.loop-made-test.true
    c.loop-made.invariant.running (rw c.in-Ok-Last.field-0-is at c.in-Ok-Last.ensures).0
    ∙ ap (λ (t : Tableau). AtOptimum t) (sym (rw c.in-Ok-Last.field-0-is at c.in-Ok-Last.ensures).3))
    c.in_ok-read_optimum-in-Ok-Last.ensures

pub returns-in-Ok-Last-clause-primal : goal.returns-in-Ok-Last-clause-primal
returns-in-Ok-Last-clause-primal c =
    let none : entering (seen c.loop-made.tableau) ≡ None =
    last_enters_none (seen c.loop-made.tableau) (rw c.in-Ok-Last.field-0-is at c.in-Ok-Last.ensures).0 in
    proves_primal c.args.program.now (seen c.loop-made.tableau) (Ok c.in_ok-read_optimum-in-Ok-Last.field-0)
    c.requires.formed c.loop-made.invariant.running.sound none
    (rw (rw c.in-Ok-Last.field-0-is at c.in-Ok-Last.ensures).3 at c.in_ok-read_optimum-in-Ok-Last.ensures)

pub returns-in-Ok-Last-clause-dual : goal.returns-in-Ok-Last-clause-dual
returns-in-Ok-Last-clause-dual c =
    let none : entering (seen c.loop-made.tableau) ≡ None =
    last_enters_none (seen c.loop-made.tableau) (rw c.in-Ok-Last.field-0-is at c.in-Ok-Last.ensures).0 in
    proves_dual c.args.program.now (seen c.loop-made.tableau) (Ok c.in_ok-read_optimum-in-Ok-Last.field-0)
    c.requires.formed c.loop-made.invariant.running.sound none
    (rw (rw c.in-Ok-Last.field-0-is at c.in-Ok-Last.ensures).3 at c.in_ok-read_optimum-in-Ok-Last.ensures)

pub returns-in-Err-clause-run : goal.returns-in-Err-clause-run
returns-in-Err-clause-run c =
    rw (ends_wide c.args.program.now c.args.pivots (seen c.loop-made.tableau) c.loop-made.made c.loop-made-test.true
    c.loop-made.invariant.running c.in-Err.ensures) (add-one c.loop-made.made)

pub returns-then-is_some-clause-run : goal.returns-then-is_some-clause-run
returns-then-is_some-clause-run c =
    let enters : is_some (entering (seen c.loop-made.tableau)) ≡ true =
    ap (λ (o : Option ℕ). is_some o) (sym c.entering.ensures) ∙ sym c.if-is_some.ensures in
    rw (ends_budget c.args.program.now c.args.pivots (seen c.loop-made.tableau) c.loop-made.made c.loop-made-test.false
    c.loop-made.invariant.running enters) tt

pub returns-clause-run : goal.returns-clause-run
returns-clause-run c =
    let enters : is_some (entering (seen c.loop-made.tableau)) ≡ false =
    ap (λ (o : Option ℕ). is_some o) (sym c.entering.ensures) ∙ sym c.if-is_some.ensures in
    tells_read c.args.program.now c.args.pivots (seen c.loop-made.tableau) (Ok c.in_ok-read_optimum.field-0)
    (ends_done c.args.program.now c.args.pivots (seen c.loop-made.tableau) c.loop-made.made c.loop-made-test.false
    c.loop-made.invariant.running enters) c.in_ok-read_optimum.ensures

pub returns-clause-primal : goal.returns-clause-primal
returns-clause-primal c =
    let enters : is_some (entering (seen c.loop-made.tableau)) ≡ false =
    ap (λ (o : Option ℕ). is_some o) (sym c.entering.ensures) ∙ sym c.if-is_some.ensures in
    proves_primal c.args.program.now (seen c.loop-made.tableau) (Ok c.in_ok-read_optimum.field-0) c.requires.formed
    c.loop-made.invariant.running.sound (none_from_test (entering (seen c.loop-made.tableau)) enters)
    c.in_ok-read_optimum.ensures

pub returns-clause-dual : goal.returns-clause-dual
returns-clause-dual c =
    let enters : is_some (entering (seen c.loop-made.tableau)) ≡ false =
    ap (λ (o : Option ℕ). is_some o) (sym c.entering.ensures) ∙ sym c.if-is_some.ensures in
    proves_dual c.args.program.now (seen c.loop-made.tableau) (Ok c.in_ok-read_optimum.field-0) c.requires.formed
    c.loop-made.invariant.running.sound (none_from_test (entering (seen c.loop-made.tableau)) enters)
    c.in_ok-read_optimum.ensures
