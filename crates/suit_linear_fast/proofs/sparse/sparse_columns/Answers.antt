use Rattle.std.proofs.Common.{arith, length}
use Rattle.std.specs.Prelude.{◌≤◌}
use Rattle.std.proofs.lemmas.List.{length-map}
use Rattle.suit_linear.specs.Sparse.{dense, dense_row}
use Rattle.suit_linear_fast.proofs.SparsePrograms.{slack_pushed, all_columns}
use Rattle.suit_linear_fast.proofs.SparseColumns.{columns_begun}
use Rattle.suit_linear_fast.proofs.sparse.sparse_columns.Goals as goal

pub loop-index-init : goal.loop-index-init
loop-index-init c = columns_begun (dense c.args.program.now) c.in_ok-columns.columns.items
    (rw (c.items-rows.ensures, c.items.ensures) at c.in_ok-columns.ensures)

pub loop-index-preserved : goal.loop-index-preserved
loop-index-preserved c =
    rw c.in_ok-push.ensures.items
    (slack_pushed (dense c.args.program.now) c.loop-index.index c.loop-index.columns.items
    c.in_ok-slack_cells.field-0 c.loop-index.invariant c.in_ok-slack_cells.ensures)

pub returns : goal.returns
returns c =
    let width = length-map c.args.program.now.rows (dense_row (length c.args.program.now.costs)) in
    let past : length (dense c.args.program.now).rows ≤ c.loop-index.index =
    omega (arith, width, rw c.items-rows.ensures at c.loop-index-test.false) in
    let low : c.loop-index.index ≤ length (dense c.args.program.now).rows =
    omega (arith, width, rw c.items-rows.ensures at c.loop-index.auto.index-end) in
    all_columns (dense c.args.program.now) c.loop-index.index c.loop-index.columns.items past low
    c.loop-index.invariant
