use Rattle.std.proofs.Common.{rules, arith}
use Rattle.std.specs.Prelude.{◌≡◌, FitsSigned, pos, ◌+ℤ◌, ◌*ℤ◌, get_or}
use Rattle.suit_linear_fast.specs.declared.cells.Cell.{Cell}
use Rattle.std.specs.Int.{w64}
use Rattle.std.proofs.lemmas.Int.{to_z-of_z}
use Rattle.suit_linear.specs.Points.{number_at}
use Rattle.suit_linear_fast.proofs.CellSums.{none_added, added_more, all_added}
use Rattle.suit_linear_fast.proofs.cells.add_multiple.Goals as goal

pub loop-cell-init : goal.loop-cell-init
loop-cell-init c = none_added _ _ _

pub loop-cell-preserved : goal.loop-cell-preserved
loop-cell-preserved c =
    let factor_fits : FitsSigned w64 c.args.factor = c.ranges.factor in
    let sum_fits : FitsSigned w64 c.in-Some.sum = search rules in
    let cell : Cell = get_or c.args.cells.now c.loop-cell.cell-index (record { index = 0; number = pos 0 }) in
    let number_fits : FitsSigned w64 (number_at c.loop-cell.numbers cell.index) = search rules in
    let cell_fits : FitsSigned w64 cell.number = search rules in
    let e : c.in-Some.sum ≡ number_at c.loop-cell.numbers cell.index +ℤ c.args.factor *ℤ cell.number =
    simp to_z-of_z at (rw c.in-Some.is at c.added.ensures) in
    simp to_z-of_z (added_more c.args.numbers.now c.args.cells.now c.args.factor c.loop-cell.cell-index
    c.loop-cell.numbers _ c.in-Some.sum c.loop-cell-test.true c.if-cell-numbers.false
    (simp to_z-of_z at c.loop-cell.invariant) e)

pub returns-clause-value : goal.returns-clause-value
returns-clause-value c =
    let factor_fits : FitsSigned w64 c.args.factor = c.ranges.factor in
    λ t. all_added c.args.numbers.now c.args.cells.now c.args.factor c.loop-cell.cell-index c.loop-cell.numbers
    (omega arith) (simp to_z-of_z at c.loop-cell.invariant)
