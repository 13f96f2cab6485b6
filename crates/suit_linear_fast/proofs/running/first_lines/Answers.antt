use Rattle.std.proofs.Common.{◌≡◌, ap, ◌∙◌, arith, length}
use Rattle.std.specs.Prelude.{get_or, List, ◌<◌, ◌≤◌}
use Rattle.std.proofs.lemmas.List.{length-map}
use Rattle.suit_linear.specs.declared.sparse.SparseRow.{SparseRow}
use Rattle.suit_linear.specs.Sparse.{dense, dense_row}
use Rattle.suit_linear_fast.proofs.FastRuns.{no_lines, more_lines, all_lines}
use Rattle.suit_linear_fast.proofs.SparseRows.{read_dense}
use Rattle.suit_linear_fast.proofs.running.first_lines.Goals as goal

pub loop-index-init : goal.loop-index-init
loop-index-init c = rw c.in_ok-lines.ensures.items (no_lines (dense c.args.program.now))

pub loop-index-preserved : goal.loop-index-preserved
loop-index-preserved c =
    let less : c.loop-index.index < length c.args.program.now.rows =
    rw c.items-rows.ensures at c.loop-index-test.true in
    let read : c.index-rows-index.result ≡ get_or c.args.program.now.rows c.loop-index.index c.index-rows-index.result =
    c.index-rows-index.is
    ∙ ap (λ (rows : List SparseRow). get_or rows c.loop-index.index c.index-rows-index.result) c.items-rows.ensures in
    rw c.in_ok-push.ensures.items
    (more_lines (dense c.args.program.now) c.loop-index.index c.loop-index.lines.items c.in-Some.line
    (dense_row (length c.args.program.now.costs) c.index-rows-index.result) c.loop-index.invariant
    (read_dense c.args.program.now c.loop-index.index c.index-rows-index.result less read)
    (rw c.items-columns.ensures at (rw c.in-Some.is at c.first_line.ensures)))

pub returns : goal.returns
returns c =
    let width = length-map c.args.program.now.rows (dense_row (length c.args.program.now.costs)) in
    let past : length (dense c.args.program.now).rows ≤ c.loop-index.index =
    omega (arith, width, rw c.items-rows.ensures at c.loop-index-test.false) in
    let low : c.loop-index.index ≤ length (dense c.args.program.now).rows =
    omega (arith, width, rw c.items-rows.ensures at c.loop-index.auto.index-end) in
    all_lines (dense c.args.program.now) c.loop-index.index c.loop-index.lines.items past low c.loop-index.invariant
