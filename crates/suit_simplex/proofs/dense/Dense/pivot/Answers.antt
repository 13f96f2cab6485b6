use Rattle.std.proofs.Common.{◌≡◌, ◌<◌, ◌≤◌, length, refl, arith, Bool, true, false}
use Rattle.std.proofs.lemmas.Result.{err_from_is_err_and}
use Rattle.suit_simplex.specs.Dense.{row_at}
use Rattle.suit_simplex.proofs.PivotOfARow.{basic_read, on_ok}
use Rattle.suit_simplex.proofs.PivotSteps.{none_pivoted, one_pivoted, row_not_fitting, row_can_clear, rows_pivoted}
use Rattle.suit_simplex.proofs.PivotSteps.{objective_fits, objective_pivoted}
use Rattle.suit_simplex.proofs.dense.Dense.pivot.Goals as goal

pub loop-other-init : goal.loop-other-init
loop-other-init c =
    none_pivoted c.args.self.now c.copy_leaver.new.self c.args.column (row_at c.args.self.now c.args.index)
    c.copy_leaver.ensures.kept c.copy_leaver.ensures.same c.copy_leaver.ensures.count c.copy_leaver.ensures.width
    c.copy_leaver.ensures.leaver

pub pivot_row-requires-clause-some : goal.pivot_row-requires-clause-some
pivot_row-requires-clause-some c =
    let leaving : c.index-leaving.result.now ≡ (row_at c.args.self.now c.args.index).basic =
    basic_read c.args.self.now.basics.items c.args.index c.index-leaving.result.now c.requires.within
    c.index-leaving.ensures in
    let less : c.loop-other.other < length c.args.self.now.basics.items =
    omega (arith, c.len-other-end.ensures, c.copy_leaver.new.self.basics.ok.0, c.copy_leaver.ensures.count) in
    rw leaving (row_can_clear c.args.self.now c.loop-other.self c.args.column (row_at c.args.self.now c.args.index)
    c.loop-other.other less c.loop-other.invariant c.requires.can)

same_false : ◌≡◌ {A = Bool} false true → ⊥
same_false e = absurd (cc)

pub returns-in_err-pivot_row-clause-fits : goal.returns-in_err-pivot_row-clause-fits
returns-in_err-pivot_row-clause-fits c =
    let leaving : c.index-leaving.result.now ≡ (row_at c.args.self.now c.args.index).basic =
    basic_read c.args.self.now.basics.items c.args.index c.index-leaving.result.now c.requires.within
    c.index-leaving.ensures in
    let less : c.loop-other.other < length c.args.self.now.basics.items =
    omega (arith, c.len-other-end.ensures, c.copy_leaver.new.self.basics.ok.0, c.copy_leaver.ensures.count) in
    let p = err_from_is_err_and c.from_residual.result c.from_residual.ensures.1 in
    rw p.1 (
      λ ok. absurd (cc),
      λ all. absurd
          (row_not_fitting c.args.self.now c.loop-other.self c.args.column (row_at c.args.self.now c.args.index)
          c.loop-other.other less c.loop-other.invariant
          (rw (← leaving) (λ h. same_false (c.in_err-pivot_row.ensures.fits.1 h))) all),
    )

pub loop-other-preserved : goal.loop-other-preserved
loop-other-preserved c =
    let leaving : c.index-leaving.result.now ≡ (row_at c.args.self.now c.args.index).basic =
    basic_read c.args.self.now.basics.items c.args.index c.index-leaving.result.now c.requires.within
    c.index-leaving.ensures in
    let less : c.loop-other.other < length c.args.self.now.basics.items =
    omega (arith, c.len-other-end.ensures, c.copy_leaver.new.self.basics.ok.0, c.copy_leaver.ensures.count) in
    one_pivoted c.args.self.now c.loop-other.self c.pivot_row.new.self c.args.column
    (row_at c.args.self.now c.args.index) c.loop-other.other less c.loop-other.invariant
    (rw leaving at (c.in_ok-pivot_row.ensures.fits.0 refl)) (rw leaving at c.in_ok-pivot_row.ensures.row)
    c.in_ok-pivot_row.ensures.kept c.in_ok-pivot_row.ensures.shape

pub returns-clause-fits : goal.returns-clause-fits
returns-clause-fits c =
    let past : length c.args.self.now.basics.items ≤ c.loop-other.other =
    omega (arith, c.len-other-end.ensures, c.copy_leaver.new.self.basics.ok.0, c.copy_leaver.ensures.count) in
    objective_fits c.args.self.now c.loop-other.self c.args.column (row_at c.args.self.now c.args.index)
    (rows_pivoted c.args.self.now c.loop-other.self c.args.column (row_at c.args.self.now c.args.index)
    c.loop-other.other past c.loop-other.invariant) c.pivot_objective.ensures.fits

pub returns-clause-value : goal.returns-clause-value
returns-clause-value c =
    let past : length c.args.self.now.basics.items ≤ c.loop-other.other =
    omega (arith, c.len-other-end.ensures, c.copy_leaver.new.self.basics.ok.0, c.copy_leaver.ensures.count) in
    on_ok c.pivot_objective.result
    (objective_pivoted c.args.self.now c.loop-other.self c.pivot_objective.new.self c.args.column
    (row_at c.args.self.now c.args.index)
    (rows_pivoted c.args.self.now c.loop-other.self c.args.column (row_at c.args.self.now c.args.index)
    c.loop-other.other past c.loop-other.invariant)) c.pivot_objective.ensures.objective
