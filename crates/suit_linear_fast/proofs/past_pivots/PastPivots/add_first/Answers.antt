use Rattle.std.proofs.Common.{rules, arith, ◌≡◌, sym, ◌∙◌}
use Rattle.std.specs.Prelude.{FitsSigned, ◌+ℤ◌, neg_ℤ, ℕ, slice_index_or, ◌-◌}
use Rattle.std.specs.Int.{w64}
use Rattle.std.proofs.lemmas.Int.{to_z-of_z}
use Rattle.std.proofs.lemmas.List.{get_or_read}
use Rattle.suit_linear.specs.Points.{number_at}
use Rattle.suit_linear_fast.specs.Replays.{wrapped, AreTaken, taken_at}
use Rattle.suit_linear_fast.proofs.RowReplays.{itself_added, left_added}
use Rattle.suit_linear_fast.proofs.past_pivots.PastPivots.add_first.Goals as goal

pub returns-then-left-eq0 : goal.returns-then-left-eq0
returns-then-left-eq0 c =
    let factor_fits : FitsSigned w64 c.args.factor = c.ranges.factor in
    let number_fits : FitsSigned w64 (number_at c.args.weights.now c.args.row) = search rules in
    let result_fits : FitsSigned w64 c.more.result = search rules in
    let left : ℕ = slice_index_or c.args.self.now.left.items c.args.row 0 in
    let is : c.index-left.result.now ≡ left =
    get_or_read c.args.self.now.left.items _ _ c.requires.known c.index-left.ensures 0 in
    let value : c.more.result ≡ wrapped (number_at c.args.weights.now c.args.row +ℤ c.args.factor) =
    simp to_z-of_z at c.more.ensures in
    simp to_z-of_z (itself_added c.args.self.now c.args.row left c.args.factor c.more.result c.args.weights.now
    (sym is ∙ c.if-left-eq0.true) c.requires.within value)

pub returns-else-left-eq0 : goal.returns-else-left-eq0
returns-else-left-eq0 c =
    let factor_fits : FitsSigned w64 c.args.factor = c.ranges.factor in
    let result_fits : FitsSigned w64 c.negated.result = search rules in
    let left : ℕ = slice_index_or c.args.self.now.left.items c.args.row 0 in
    let is : c.index-left.result.now ≡ left =
    get_or_read c.args.self.now.left.items _ _ c.requires.known c.index-left.ensures 0 in
    let differs = c.if-left-eq0.false in
    let taken : AreTaken c.args.weights.now c.negated.result (taken_at c.args.self.now (c.index-left.result.now - 1))
    c.take_leaver.new.weights = simp to_z-of_z at c.take_leaver.ensures in
    let times : c.negated.result ≡ wrapped (neg_ℤ c.args.factor) = simp to_z-of_z at c.negated.ensures in
    left_added c.args.self.now c.args.row left c.args.factor c.negated.result c.args.weights.now
    c.take_leaver.new.weights (rw (← is) (omega arith)) times (rw is at taken)
