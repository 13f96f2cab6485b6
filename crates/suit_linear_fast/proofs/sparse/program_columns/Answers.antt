use Rattle.std.specs.Prelude.{map}
use Rattle.suit_linear.specs.Sparse.{dense_row}
use Rattle.suit_linear_fast.specs.Sparse.{cells_of}
use Rattle.suit_linear_fast.proofs.SparseColumns.{none_held, row_held, columns_whole}
use Rattle.suit_linear_fast.proofs.sparse.program_columns.Goals as goal

pub loop-index-init : goal.loop-index-init
loop-index-init c = none_held (map (dense_row c.args.count) c.args.rows.now) c.args.count
    (cells_of c.in_ok-columns.columns.items) c.in_ok-columns.ensures

pub loop-index-preserved : goal.loop-index-preserved
loop-index-preserved c = row_held c.args.rows.now c.args.count c.loop-index.index c.index-rows-index.result
    (cells_of c.loop-index.columns.items) (cells_of c.add_entries.new.columns.items) c.loop-index-test.true
    c.index-rows-index.is c.loop-index.invariant
    (rw (← c.index-rows-index.is) at (rw c.items.ensures at c.in_ok-add_entries.ensures))

pub returns : goal.returns
returns c = columns_whole c.args.rows.now c.args.count c.loop-index.index c.loop-index.columns.items
    c.loop-index-test.false c.loop-index.invariant
