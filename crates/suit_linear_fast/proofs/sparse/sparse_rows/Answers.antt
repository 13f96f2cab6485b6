use Rattle.std.proofs.Common.{◌≡◌, ap, ◌∙◌, length, List}
use Rattle.std.specs.Prelude.{get_or, ◌<◌, ◌≤◌, suc, ◌+◌}
use Rattle.suit_linear.specs.declared.sparse.SparseRow.{SparseRow}
use Rattle.suit_linear.specs.Sparse.{dense}
use Rattle.suit_linear_fast.proofs.SparsePrograms.{no_rows}
use Rattle.suit_linear_fast.proofs.SparseRows.{sparse_row_pushed, all_sparse_rows}
use Rattle.suit_linear_fast.proofs.sparse.sparse_rows.Goals as goal

pub loop-index-init : goal.loop-index-init
loop-index-init c = rw c.new-rows.ensures.items (no_rows (dense c.args.program.now))

pub loop-index-preserved : goal.loop-index-preserved
loop-index-preserved c =
    let less : c.loop-index.index < length c.args.program.now.rows =
    rw c.items-list.ensures at c.loop-index-test.true in
    let read : c.index-list-index.result ≡ get_or c.args.program.now.rows c.loop-index.index c.index-list-index.result =
    c.index-list-index.is
    ∙ ap (λ (rows : List SparseRow). get_or rows c.loop-index.index c.index-list-index.result) c.items-list.ensures in
    let slack : c.in-Some.slack ≡ suc (length c.args.program.now.costs + c.loop-index.index) =
    rw c.items-columns.ensures at (rw c.in-Some.is at c.slack_index.ensures) in
    rw c.in_ok-push.ensures.items
    (sparse_row_pushed c.args.program.now c.loop-index.index c.loop-index.rows.items c.in-Some-2.cells
    c.index-list-index.result c.in-Some.slack c.loop-index.invariant less read slack
    (rw c.items-columns.ensures at (rw c.in-Some-2.is at c.in_ok-cells.ensures)))

pub returns : goal.returns
returns c =
    let past : length c.args.program.now.rows ≤ c.loop-index.index =
    rw c.items-list.ensures at c.loop-index-test.false in
    let low : c.loop-index.index ≤ length c.args.program.now.rows =
    rw c.items-list.ensures at c.loop-index.auto.index-end in
    all_sparse_rows c.args.program.now c.loop-index.index c.loop-index.rows.items past low c.loop-index.invariant
