use Rattle.std.proofs.Common.{rules, ◌≡◌, get_or, take}
use Rattle.std.specs.Prelude.{FitsSigned, pos, ◌-ℤ◌, ◌*ℤ◌}
use Rattle.std.specs.Int.{w64}
use Rattle.std.proofs.lemmas.Int.{to_z-of_z}
use Rattle.suit_linear.specs.Points.{number_at}
use Rattle.suit_linear_fast.specs.declared.past_pivots.Change.{Change}
use Rattle.suit_linear_fast.specs.Replays.{wrapped, times_in, AreTaken}
use Rattle.suit_linear_fast.proofs.ReplaySteps.{none_taken, no_times, changes_more, changes_past}
use Rattle.suit_linear_fast.proofs.past_pivots.take_changes.Goals as goal
use Rattle.suit_linear_fast.proofs.past_pivots.take_changes.Goals.{then-row-numbers, else-row-numbers}

pub loop-change-init : goal.loop-change-init
loop-change-init c = none_taken _ _ _ no_times

pub loop-change-preserved : goal.loop-change-preserved
loop-change-preserved c =
    let other : Change = record { row = 0; pivot = 0; before = 0; own = 0; times = pos 0 } in
    let entry_fits : FitsSigned w64 c.args.entry = c.ranges.entry in
    let so_far : AreTaken c.args.numbers.now c.args.entry
    (times_in (take c.loop-change.change-index c.args.changes.now))
    c.loop-change.numbers = simp to_z-of_z at c.loop-change.invariant in
    elim c.if-row-numbers.branch [
      | then-row-numbers w ↦
          let change : Change = get_or c.args.changes.now c.loop-change.change-index other in
          let number_fits : FitsSigned w64 (number_at c.loop-change.numbers change.row) = search rules in
          let times_fits : FitsSigned w64 change.times = search rules in
          let value_fits : FitsSigned w64 w.less.result = search rules in
          let value : w.less.result
          ≡ wrapped (number_at c.loop-change.numbers change.row -ℤ c.args.entry *ℤ change.times) =
          simp to_z-of_z at w.less.ensures in
          rw w.numbers-is (simp to_z-of_z (changes_more _ _ _ c.loop-change.change-index other _ w.less.result
          c.loop-change-test.true w.if-row-numbers.true so_far value))
      | else-row-numbers w ↦
          rw w.numbers-is (simp to_z-of_z (changes_past _ _ _ c.loop-change.change-index other _
          c.loop-change-test.true w.if-row-numbers.false so_far))
    ]
