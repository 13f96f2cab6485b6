use Rattle.std.proofs.Common.{rules, ◌≡◌, sym, ◌∙◌, true}
use Rattle.std.specs.Prelude.{FitsSigned, pos, ◌*ℤ◌, get_or, int_lt}
use Rattle.std.specs.Int.{w64}
use Rattle.std.proofs.lemmas.Int.{to_z-of_z}
use Rattle.suit_num.proofs.IntegerLaws.{int_lt-true}
use Rattle.suit_linear.specs.Points.{number_at}
use Rattle.suit_linear_fast.specs.declared.lines.Line.{Line}
use Rattle.suit_linear_fast.proofs.ClaimSums.{none_shared, one_shared, all_shared}
use Rattle.suit_linear_fast.proofs.claims.share_out.Goals as goal

pub loop-index-init : goal.loop-index-init
loop-index-init c = none_shared _ _ _ _ c.if-shares-lines.false

pub loop-index-preserved : goal.loop-index-preserved
loop-index-preserved c =
    let line : Line = get_or c.args.lines.now c.loop-index.index
    (record { basic = 0; own = pos 0; bound = pos 0; size = 0 }) in
    let scale_fits : FitsSigned w64 c.args.scale = c.ranges.scale in
    let own_fits : FitsSigned w64 line.own = search rules in
    let entry_fits : FitsSigned w64 (number_at c.args.entries.now c.loop-index.index) = search rules in
    let share_fits : FitsSigned w64 c.in-Some.share = search rules in
    let value : c.in-Some.share *ℤ line.own ≡ number_at c.args.entries.now c.loop-index.index *ℤ c.args.scale =
    simp to_z-of_z at (rw c.in-Some.is at c.share.ensures) in
    simp to_z-of_z (one_shared c.args.lines.now c.args.entries.now c.args.scale c.loop-index.index c.loop-index.shares
    c.in-Some.share (record { basic = 0; own = pos 0; bound = pos 0; size = 0 }) c.loop-index-test.true
    (simp to_z-of_z at c.loop-index.invariant) value)

pub returns-clause-value : goal.returns-clause-value
returns-clause-value c =
    let scale_fits : FitsSigned w64 c.args.scale = c.ranges.scale in
    let some : int_lt (pos 0) c.args.scale ≡ true =
    simp to_z-of_z at (sym c.is_positive.ensures ∙ c.if-not-is_positive.false) in
    λ t. all_shared c.args.lines.now c.args.entries.now c.args.scale c.loop-index.index c.loop-index.shares
    (int_lt-true (pos 0) c.args.scale some) c.if-entries-lines.false c.loop-index-test.false
    (simp to_z-of_z at c.loop-index.invariant)
