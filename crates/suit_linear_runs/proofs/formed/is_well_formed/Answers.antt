use Rattle.std.proofs.Common.{◌≡◌, subst, ap, List, length, arith}
use Rattle.std.specs.Prelude.{All, ℤ}
use Rattle.suit_num.specs.Narrow.{IsNarrow}
use Rattle.suit_linear.specs.declared.sparse.SparseRow.{SparseRow}
use Rattle.suit_linear_runs.proofs.WellFormedRowByRow.{all_formed}
use Rattle.suit_linear_runs.proofs.formed.is_well_formed.Goals as goal

pub returns : goal.returns
returns c = λ t.
    let count : length c.items-rows.result.now ≡ length c.args.program.now.rows =
    ap (λ (rows : List SparseRow). length rows) c.items-rows.ensures in
    all_formed c.args.program.now c.loop-index.index
    (subst (λ (numbers : List ℤ). All IsNarrow numbers) c.items-costs.ensures
    (c.are_narrow.ensures c.if-not-are_narrow.false)) (omega (arith, count)) c.loop-index.invariant
