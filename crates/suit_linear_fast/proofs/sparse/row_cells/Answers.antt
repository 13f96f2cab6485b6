use Rattle.std.proofs.Common.{rules, arith}
use Rattle.std.specs.Prelude.{FitsSigned}
use Rattle.std.specs.Int.{w128}
use Rattle.std.proofs.lemmas.Int.{to_z-of_z}
use Rattle.suit_linear_fast.proofs.SparseRows.{bound_held, entry_held, row_whole}
use Rattle.suit_linear_fast.proofs.sparse.row_cells.Goals as goal

pub loop-index-init : goal.loop-index-init
loop-index-init c =
    let bound_fits : FitsSigned w128 c.args.row.now.bound = search rules in
    bound_held c.args.columns c.args.row.now.bound c.items-entries.result.now c.push_cell.new.cells.items
    (rw c.new-cells.ensures.items at (simp to_z-of_z at (c.in_ok-push_cell.ensures c.if-not-branch.false)))

pub loop-index-preserved : goal.loop-index-preserved
loop-index-preserved c = entry_held c.args.columns c.args.row.now.bound c.items-entries.result.now c.loop-index.index _
    c.loop-index.cells.items c.push_entry.new.cells.items c.loop-index-test.true c.loop-index.invariant
    (c.in_ok-push_entry.ensures c.if-not-branch-2.false)

pub returns : goal.returns
returns c =
    rw (← c.items-entries.ensures)
    (row_whole c.args.columns c.args.row.now.bound c.items-entries.result.now c.loop-index.index c.args.slack
    c.loop-index.cells.items c.push_cell-2.new.cells.items (omega arith) c.loop-index.invariant
    (c.in_ok-push_cell-2.ensures c.if-not-branch-3.false))
