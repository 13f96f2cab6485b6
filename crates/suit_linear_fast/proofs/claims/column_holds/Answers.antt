use Rattle.std.proofs.Common.{rules}
use Rattle.std.specs.Prelude.{FitsSigned}
use Rattle.std.specs.Int.{w64}
use Rattle.std.proofs.lemmas.Int.{to_z-of_z}
use Rattle.suit_linear_fast.proofs.ClaimSums.{column_claimed}
use Rattle.suit_linear_fast.proofs.claims.column_holds.Goals as goal

pub returns-clause-value : goal.returns-clause-value
returns-clause-value c = λ t program is.
    let scale_fits : FitsSigned w64 c.in-Some.scale = search rules in
    column_claimed program c.args.lines.now c.args.column c.args.entries.now c.share_out.new.shares
    c.add_columns.new.sums c.take_column.new.sums c.in-Some.scale
    (simp to_z-of_z at (c.share_out.ensures.value c.if-not-share_out.false))
    (c.add_columns.ensures.value c.if-not-add_columns.false program is)
    (simp to_z-of_z at (c.take_column.ensures.value c.if-not-take_column.false program is)) (c.all_zero.ensures t)
