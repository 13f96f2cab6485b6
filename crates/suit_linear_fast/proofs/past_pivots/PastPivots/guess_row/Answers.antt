use Rattle.std.proofs.Common.{rules, arith, ◌≡◌, refl, ◌+◌, ◌-◌, length, ℕ, suc, inl, inr, ◌⊎◌}
use Rattle.std.specs.Prelude.{FitsSigned, slice_get, Some, None, ℤ, ◌*ℤ◌}
use Rattle.std.specs.Int.{w64, cast_signed}
use Rattle.std.proofs.lemmas.Int.{to_z-of_z}
use Rattle.std.proofs.lemmas.Option.{slice_get_read, slice_get_past}
use Rattle.suit_linear_fast.specs.declared.past_pivots.Change.{Change}
use Rattle.suit_linear_fast.specs.Replays.{wrapped, AreTaken, taken_at}
use Rattle.suit_linear_fast.proofs.RowReplays.{row_more, row_stops, row_ends}
use Rattle.suit_linear_fast.proofs.past_pivots.PastPivots.guess_row.Goals as goal
use Rattle.suit_linear_fast.proofs.past_pivots.PastPivots.guess_row.Goals.{else-loop-made-test}
use Rattle.suit_linear_fast.proofs.past_pivots.PastPivots.guess_row.Goals.{then-loop-made-test+then-count-eq0}

pub returns-in_default : goal.returns-in_default
returns-in_default c =
    let differs = c.if-count-eq0.false in
    let end = c.len-made-end.ensures in
    let most : ℕ = length c.args.self.now.changes.items - (c.loop-made.made + 1) in
    let more : length c.args.self.now.changes.items - c.loop-made.made ≡ suc most = omega arith in
    let found : slice_get c.args.self.now.changes.items (c.loop-made.count - 1) ≡ None =
    rw (← c.deref.ensures.value) (slice_get_past c.deref.result.now _ c.in_default.ensures.lookup.3) in
    λ known within. row_stops c.args.self.now c.args.row most c.loop-made.count _ c.loop-made.weights (omega arith)
    found (rw more at c.loop-made.invariant)

pub loop-made-preserved : goal.loop-made-preserved
loop-made-preserved c =
    let differs = c.if-count-eq0.false in
    let end = c.len-made-end.ensures in
    let change : Change = c.in-Some.change.now in
    let factor : ℤ = cast_signed w64 c.loop-made.factor-bits in
    let most : ℕ = length c.args.self.now.changes.items - (c.loop-made.made + 1) in
    let more : length c.args.self.now.changes.items - c.loop-made.made ≡ suc most = omega arith in
    let found : slice_get c.args.self.now.changes.items (c.loop-made.count - 1) ≡ Some change =
    rw (← c.deref.ensures.value) (slice_get_read c.deref.result.now _ _ change refl c.in-Some.ensures.lookup.3.0
    c.in-Some.ensures.lookup.1) in
    let change_fits : FitsSigned w64 change.times = search rules in
    let own_fits : FitsSigned w64 c.from.result = search rules in
    let times_fits : FitsSigned w64 c.multiplied-times.result = search rules in
    let factor_fits : FitsSigned w64 c.multiplied-factor.result = search rules in
    let times : c.multiplied-times.result ≡ wrapped (factor *ℤ change.times) =
    simp to_z-of_z at c.multiplied-times.ensures in
    let whole : c.multiplied-factor.result ≡ wrapped (factor *ℤ c.from.result) =
    simp to_z-of_z at c.multiplied-factor.ensures in
    let taken : AreTaken c.loop-made.weights c.multiplied-times.result (taken_at c.args.self.now change.pivot)
    c.take_leaver.new.weights = simp to_z-of_z at c.take_leaver.ensures in
    simp to_z-of_z (row_more c.args.self.now c.args.row most c.loop-made.count change factor c.multiplied-times.result
    c.multiplied-factor.result c.loop-made.weights c.take_leaver.new.weights (omega arith) found times
    (rw c.from.ensures at whole) taken (rw more at c.loop-made.invariant))

pub returns : goal.returns
returns c =
    let end = c.len-made-end.ensures in
    let most : ℕ = length c.args.self.now.changes.items - c.loop-made.made in
    let last : (most ≡ 0) ⊎ (c.loop-made.count ≡ 0) =
    elim c.loop-made-test.branch as (λ _. (most ≡ 0) ⊎ (c.loop-made.count ≡ 0)) [
      | else-loop-made-test w ↦ inl (omega arith)
      | then-loop-made-test+then-count-eq0 w ↦ inr w.if-count-eq0.true
    ] in
    λ known within. row_ends c.args.self.now c.args.row most c.loop-made.count _ c.loop-made.weights _ last
    c.loop-made.invariant c.add_first.ensures
