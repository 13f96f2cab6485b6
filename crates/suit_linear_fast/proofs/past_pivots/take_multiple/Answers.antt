use Rattle.std.proofs.Common.{rules, ◌≡◌, get_or, take}
use Rattle.std.specs.Prelude.{FitsSigned, pos, ◌-ℤ◌, ◌*ℤ◌}
use Rattle.std.specs.Int.{w64}
use Rattle.std.proofs.lemmas.Int.{to_z-of_z}
use Rattle.suit_linear.specs.Points.{number_at}
use Rattle.suit_linear_fast.specs.declared.cells.Cell.{Cell}
use Rattle.suit_linear_fast.specs.Replays.{wrapped, AreTaken}
use Rattle.suit_linear_fast.specs.Cells.{number_in}
use Rattle.suit_linear_fast.proofs.ReplaySteps.{none_taken, no_number, cells_more, cells_past}
use Rattle.suit_linear_fast.proofs.past_pivots.take_multiple.Goals as goal
use Rattle.suit_linear_fast.proofs.past_pivots.take_multiple.Goals.{then-cell-numbers, else-cell-numbers}

pub loop-cell-init : goal.loop-cell-init
loop-cell-init c = none_taken _ _ _ no_number

pub loop-cell-preserved : goal.loop-cell-preserved
loop-cell-preserved c =
    let other : Cell = record { index = 0; number = pos 0 } in
    let times_fits : FitsSigned w64 c.args.times = c.ranges.times in
    let so_far : AreTaken c.args.numbers.now c.args.times (number_in (take c.loop-cell.cell-index c.args.cells.now))
    c.loop-cell.numbers = simp to_z-of_z at c.loop-cell.invariant in
    elim c.if-cell-numbers.branch [
      | then-cell-numbers w ↦
          let cell : Cell = get_or c.args.cells.now c.loop-cell.cell-index other in
          let number_fits : FitsSigned w64 (number_at c.loop-cell.numbers cell.index) = search rules in
          let number_of_fits : FitsSigned w64 cell.number = search rules in
          let value_fits : FitsSigned w64 w.less.result = search rules in
          let value : w.less.result
          ≡ wrapped (number_at c.loop-cell.numbers cell.index -ℤ c.args.times *ℤ cell.number) =
          simp to_z-of_z at w.less.ensures in
          rw w.numbers-is (simp to_z-of_z (cells_more _ _ _ c.loop-cell.cell-index other _ w.less.result
          c.loop-cell-test.true w.if-cell-numbers.true so_far value))
      | else-cell-numbers w ↦
          rw w.numbers-is (simp to_z-of_z (cells_past _ _ _ c.loop-cell.cell-index other _
          c.loop-cell-test.true w.if-cell-numbers.false so_far))
    ]
