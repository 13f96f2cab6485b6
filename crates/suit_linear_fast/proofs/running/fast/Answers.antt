use Rattle.std.proofs.Common.{arith, ◌≡◌, sym, ◌∙◌, true, false, is_some, length}
use Rattle.suit_linear.specs.Sparse.{dense}
use Rattle.suit_linear.specs.Pivots.{entering}
use Rattle.suit_linear.specs.Runs.{run_end}
use Rattle.suit_linear.proofs.RunSteps.{ends_last, ends_budget, ends_done, next_last}
use Rattle.suit_linear_fast.specs.Sparse.{IsSparse}
use Rattle.suit_linear_fast.specs.States.{IsStateOf}
use Rattle.suit_linear_fast.proofs.FastRuns.{first_run, first_state, next_run, read_tells, enters_test, written}
use Rattle.suit_linear_fast.proofs.running.fast.Goals as goal

pub loop-made-init : goal.loop-made-init
loop-made-init c =
    let facts = rw c.in-Some-3.is at c.in_ok-objective.ensures in
    let sparse : IsSparse (dense c.args.program.now) c.in-Some.sparse = rw c.in-Some.is at c.in_ok-sparse.ensures in
    let rows : c.len-rows.result ≡ length (dense c.args.program.now).rows = c.len-rows.ensures
    ∙ omega (arith, c.in-Some.sparse.rows.ok.0, sparse.row_count) in
    first_run (dense c.args.program.now) c.args.pivots c.in-Some-2.lines.items c.in-Some-3.objective.items c.requires
    (first_state (dense c.args.program.now) c.in-Some-2.lines.items c.in-Some-3.objective.items c.requires
    (rw c.in-Some-2.is at c.in_ok-lines.ensures) (rw (c.items.ensures, rows) at facts.value) facts.small)

pub loop-made-preserved : goal.loop-made-preserved
loop-made-preserved c =
    let sparse : IsSparse (dense c.args.program.now) c.in-Some.sparse = rw c.in-Some.is at c.in_ok-sparse.ensures in
    let state : IsStateOf (dense c.args.program.now) c.deref_mut.result.now c.deref_mut-in-loop-made.result.now
    c.loop-made.invariant.tableau =
    rw (c.deref_mut.ensures.value, c.deref_mut-in-loop-made.ensures.value) c.loop-made.invariant.state in
    let step = rw c.in-Pivoted.is at (c.in_ok-advance.ensures.value
    (dense c.args.program.now) c.loop-made.invariant.tableau
    sparse state) in
    let lines = written c.loop-made.lines c.advance.new.lines c.deref_mut.result.now c.advance.ensures.lines
    c.deref_mut.ensures.len in
    let objective = written c.loop-made.objective c.advance.new.objective c.deref_mut-in-loop-made.result.now
    c.advance.ensures.objective c.deref_mut-in-loop-made.ensures.len in
    rw (lines, objective) (next_run (dense c.args.program.now) c.args.pivots c.loop-made.made c.loop-made.lines.items
    c.loop-made.objective.items c.advance.new.lines c.advance.new.objective c.loop-made-test.true c.loop-made.invariant
    step)

pub read_end-requires : goal.read_end-requires
read_end-requires c =
    let sparse : IsSparse (dense c.args.program.now) c.in-Some.sparse = rw c.in-Some.is at c.in_ok-sparse.ensures in
    let state : IsStateOf (dense c.args.program.now) c.deref_mut.result.now c.deref_mut-in-loop-made.result.now
    c.loop-made.invariant.tableau =
    rw (c.deref_mut.ensures.value, c.deref_mut-in-loop-made.ensures.value) c.loop-made.invariant.state in
    let step = rw c.in-Last.is at (c.in_ok-advance.ensures.value
    (dense c.args.program.now) c.loop-made.invariant.tableau
    sparse state) in
    let objective = written c.loop-made.objective c.advance.new.objective c.deref_mut-in-loop-made.result.now
    c.advance.ensures.objective c.deref_mut-in-loop-made.ensures.len in
    rw (c.deref-in-Last.ensures.value ∙ objective) step.1.small

pub returns-in-Last : goal.returns-in-Last
returns-in-Last c =
    let sparse : IsSparse (dense c.args.program.now) c.in-Some.sparse = rw c.in-Some.is at c.in_ok-sparse.ensures in
    let state : IsStateOf (dense c.args.program.now) c.deref_mut.result.now c.deref_mut-in-loop-made.result.now
    c.loop-made.invariant.tableau =
    rw (c.deref_mut.ensures.value, c.deref_mut-in-loop-made.ensures.value) c.loop-made.invariant.state in
    let step = rw c.in-Last.is at (c.in_ok-advance.ensures.value
    (dense c.args.program.now) c.loop-made.invariant.tableau
    sparse state) in
    let lines = written c.loop-made.lines c.advance.new.lines c.deref_mut.result.now c.advance.ensures.lines
    c.deref_mut.ensures.len in
    let objective = written c.loop-made.objective c.advance.new.objective c.deref_mut-in-loop-made.result.now
    c.advance.ensures.objective c.deref_mut-in-loop-made.ensures.len in
    let last : IsStateOf (dense c.args.program.now) c.deref.result.now c.deref-in-Last.result.now
    c.loop-made.invariant.tableau =
    rw (c.deref.ensures.value ∙ lines, c.deref-in-Last.ensures.value ∙ objective) step.1 in
    read_tells (dense c.args.program.now) c.deref.result.now c.deref-in-Last.result.now c.loop-made.invariant.tableau
    (run_end (dense c.args.program.now) c.args.pivots) c.read_end.result last
    (ends_last (dense c.args.program.now) c.args.pivots c.loop-made.invariant.tableau c.loop-made.made
    c.loop-made-test.true
    c.loop-made.invariant.running (next_last c.loop-made.invariant.tableau step.0)) c.read_end.ensures

pub returns-then-is_some : goal.returns-then-is_some
returns-then-is_some c =
    let enters : is_some (entering c.loop-made.invariant.tableau) ≡ true =
    enters_test (dense c.args.program.now) c.loop-made.lines.items c.loop-made.objective.items c.deref-2.result.now
    c.loop-made.invariant.tableau c.entering.result c.loop-made.invariant.state c.deref-2.ensures.value
    c.entering.ensures ∙ sym c.if-is_some.ensures in
    rw (ends_budget (dense c.args.program.now) c.args.pivots c.loop-made.invariant.tableau c.loop-made.made
    c.loop-made-test.false c.loop-made.invariant.running enters) tt

pub returns : goal.returns
returns c =
    let enters : is_some (entering c.loop-made.invariant.tableau) ≡ false =
    enters_test (dense c.args.program.now) c.loop-made.lines.items c.loop-made.objective.items c.deref-2.result.now
    c.loop-made.invariant.tableau c.entering.result c.loop-made.invariant.state c.deref-2.ensures.value
    c.entering.ensures ∙ sym c.if-is_some.ensures in
    let last : IsStateOf (dense c.args.program.now) c.deref-3.result.now c.deref-4.result.now
    c.loop-made.invariant.tableau =
    rw (c.deref-3.ensures.value, c.deref-4.ensures.value) c.loop-made.invariant.state in
    read_tells (dense c.args.program.now) c.deref-3.result.now c.deref-4.result.now c.loop-made.invariant.tableau
    (run_end (dense c.args.program.now) c.args.pivots) c.read_end-2.result last
    (ends_done (dense c.args.program.now) c.args.pivots c.loop-made.invariant.tableau c.loop-made.made
    c.loop-made-test.false
    c.loop-made.invariant.running enters) c.read_end-2.ensures
