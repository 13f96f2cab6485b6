use Rattle.std.proofs.Common.{rules}
use Rattle.std.specs.Prelude.{FitsSigned}
use Rattle.std.specs.Int.{w64}
use Rattle.std.proofs.lemmas.Int.{to_z-of_z}
use Rattle.suit_linear.specs.Points.{number_at}
use Rattle.suit_linear_fast.proofs.ClaimSums.{no_rows, rows_summed}
use Rattle.suit_linear_fast.proofs.claims.sum_rows.Goals as goal

pub loop-index-init : goal.loop-index-init
loop-index-init c = no_rows _ _ c.clear.ensures.value

pub loop-index-preserved : goal.loop-index-preserved
loop-index-preserved c =
    let weight_fits : FitsSigned w64 (number_at c.args.weights.now c.loop-index.index) = search rules in
    rows_summed c.args.sparse.now c.loop-index.index (number_at c.args.weights.now c.loop-index.index)
    c.loop-index.numbers c.add_row.new.numbers c.loop-index.invariant
    (simp to_z-of_z at (c.add_row.ensures.value c.if-not-add_row.false))

pub returns-clause-value : goal.returns-clause-value
returns-clause-value c = λ t. c.loop-index.invariant.solved
