use Rattle.std.proofs.Common.{rules, ◌≡◌, refl}
use Rattle.std.specs.Prelude.{FitsSigned, slice_get, Some, pos, set, ℤ, List}
use Rattle.std.specs.Int.{w64}
use Rattle.std.proofs.lemmas.Int.{to_z-of_z}
use Rattle.std.proofs.lemmas.Option.{slice_get_read}
use Rattle.std.proofs.lemmas.List.{get_or_past}
use Rattle.suit_linear.specs.Points.{number_at}
use Rattle.suit_linear_fast.specs.declared.past_pivots.Leaver.{Leaver}
use Rattle.suit_linear_fast.specs.Replays.{AreMultiplied, AreTaken, factor_in, times_in, share_of}
use Rattle.suit_linear_fast.proofs.CellSums.{zero_bits64}
use Rattle.suit_linear_fast.proofs.ColumnReplays.{pivot_made, pivot_idle}
use Rattle.suit_linear_fast.proofs.past_pivots.PastPivots.step_column.Goals as goal
use Rattle.suit_linear_fast.proofs.past_pivots.PastPivots.step_column.Goals.{then-row-entries-via-then-row-entries}

pub returns-then-row-entries : goal.returns-then-row-entries
returns-then-row-entries c =
    let leaver : Leaver = c.in-Some.leaver.now in
    let middle : List ℤ = c.multiply.new.numbers in
    let found : slice_get c.args.self.now.leavers.items c.args.pivot ≡ Some leaver =
    rw (← c.deref.ensures.value) (slice_get_read c.deref.result.now _ c.args.pivot leaver refl
    c.in-Some.ensures.lookup.3.0 c.in-Some.ensures.lookup.1) in
    let multiplied : AreMultiplied c.args.entries.now (factor_in c.multiples_of.result.now) middle =
    c.multiply.ensures in
    let none : number_at middle leaver.row ≡ pos 0 =
    elim c.then-row-entries.branch as (λ _. number_at middle leaver.row ≡ pos 0) [
      | then-row-entries-via-then-row-entries w ↦ get_or_past middle leaver.row (pos 0) w.if-row-entries.true
      | goal.then-row-entries-via-else-row-entries+then-entries-row-eq0 w ↦
          let fits : FitsSigned w64 (number_at middle leaver.row) = search rules in
          zero_bits64 (number_at middle leaver.row) fits w.if-entries-row-eq0.true
    ] in
    pivot_idle c.args.self.now c.args.pivot leaver c.args.entries.now middle found
    (rw c.multiples_of.ensures at multiplied) none

pub returns : goal.returns
returns c =
    let leaver : Leaver = c.in-Some.leaver.now in
    let middle : List ℤ = c.multiply.new.numbers in
    let entry : ℤ = c.quotient-entry.result in
    let found : slice_get c.args.self.now.leavers.items c.args.pivot ≡ Some leaver =
    rw (← c.deref.ensures.value) (slice_get_read c.deref.result.now _ c.args.pivot leaver refl
    c.in-Some.ensures.lookup.3.0 c.in-Some.ensures.lookup.1) in
    let multiplied : AreMultiplied c.args.entries.now (factor_in c.multiples_of.result.now) middle =
    c.multiply.ensures in
    let fits : FitsSigned w64 (number_at middle leaver.row) = search rules in
    let divisor_fits : FitsSigned w64 leaver.divisor = search rules in
    let entry_fits : FitsSigned w64 entry = search rules in
    let share : entry ≡ share_of (number_at middle leaver.row) leaver.divisor =
    simp to_z-of_z at c.quotient-entry.ensures in
    let taken : AreTaken (set middle leaver.row entry) entry (times_in c.changes_of.result.now)
    c.take_changes.new.numbers = simp to_z-of_z at c.take_changes.ensures in
    pivot_made c.args.self.now c.args.pivot leaver c.args.entries.now middle c.take_changes.new.numbers entry found
    (rw c.multiples_of.ensures at multiplied) fits share (rw c.changes_of.ensures at taken)
