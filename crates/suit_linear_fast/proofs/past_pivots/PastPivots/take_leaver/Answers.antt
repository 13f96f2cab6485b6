use Rattle.std.proofs.Common.{◌≡◌, refl, ◌≤◌, length}
use Rattle.std.specs.Prelude.{FitsSigned, slice_get, Some, None}
use Rattle.std.specs.Int.{w64}
use Rattle.std.proofs.lemmas.Int.{to_z-of_z}
use Rattle.std.proofs.lemmas.Option.{slice_get_read, slice_get_past}
use Rattle.suit_linear_fast.specs.Cells.{number_in}
use Rattle.suit_linear_fast.specs.Replays.{AreTaken}
use Rattle.suit_linear_fast.proofs.RowReplays.{taken_here, taken_nowhere}
use Rattle.suit_linear_fast.proofs.past_pivots.PastPivots.take_leaver.Goals as goal

pub returns-in-Some : goal.returns-in-Some
returns-in-Some c =
    let fits : FitsSigned w64 c.args.times = c.ranges.times in
    let found : slice_get c.args.self.now.leavers.items c.args.pivot ≡ Some c.in-Some.leaver.now =
    rw (← c.deref.ensures.value) (slice_get_read c.deref.result.now _ c.args.pivot c.in-Some.leaver.now refl
    c.in-Some.ensures.lookup.3.0 c.in-Some.ensures.lookup.1) in
    let taken : AreTaken c.args.weights.now c.args.times (number_in c.weights_of.result.now)
    c.take_multiple.new.numbers = simp to_z-of_z at c.take_multiple.ensures in
    taken_here c.args.self.now c.args.pivot c.in-Some.leaver.now c.args.times _ _ found
    (rw c.weights_of.ensures at taken)

pub returns-in_default : goal.returns-in_default
returns-in_default c =
    let past : length c.deref.result.now ≤ c.args.pivot = c.in_default.ensures.lookup.3 in
    let found : slice_get c.args.self.now.leavers.items c.args.pivot ≡ None =
    rw (← c.deref.ensures.value) (slice_get_past c.deref.result.now c.args.pivot past) in
    taken_nowhere c.args.self.now c.args.pivot c.args.times _ found
