use Rattle.std.proofs.Common.{arith, rules, ◌≡◌}
use Rattle.std.specs.Prelude.{FitsSigned, pos}
use Rattle.std.specs.Int.{w64}
use Rattle.std.proofs.lemmas.Int.{to_z-of_z}
use Rattle.suit_linear.specs.Points.{number_at}
use Rattle.suit_linear_fast.proofs.ClaimSums.{none_summed, one_summed, zero_summed, all_summed}
use Rattle.suit_linear_fast.proofs.claims.add_columns.Goals as goal

pub loop-index-init : goal.loop-index-init
loop-index-init c = none_summed _ _ _ _ c.clear.ensures.value

pub loop-index-preserved-then-is_same_short : goal.loop-index-preserved-then-is_same_short
loop-index-preserved-then-is_same_short c =
    let share_fits : FitsSigned w64 (number_at c.args.shares.now c.loop-index.index) = search rules in
    let none : number_at c.args.shares.now c.loop-index.index ≡ pos 0 =
    simp to_z-of_z at (c.is_same_short.ensures c.if-is_same_short.true) in
    zero_summed c.args.sparse.now c.args.lines.now c.args.shares.now c.loop-index.index c.loop-index.sums (omega arith)
    c.requires c.loop-index.invariant none

pub loop-index-preserved : goal.loop-index-preserved
loop-index-preserved c =
    let share_fits : FitsSigned w64 (number_at c.args.shares.now c.loop-index.index) = search rules in
    one_summed c.args.sparse.now c.args.lines.now c.args.shares.now c.loop-index.index c.loop-index.sums
    c.add_column.new.sums (record { basic = 0; own = pos 0; bound = pos 0; size = 0 }) (omega arith) c.requires
    c.loop-index.invariant (simp to_z-of_z at (c.add_column.ensures.value c.if-not-add_column.false))

pub returns-clause-value : goal.returns-clause-value
returns-clause-value c = λ t. all_summed c.args.sparse.now c.args.lines.now c.args.shares.now c.loop-index.index
    c.loop-index.sums (omega arith) (omega arith) c.loop-index.invariant
