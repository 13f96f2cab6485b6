use Rattle.std.proofs.Common.{◌≡◌, ◌∙◌, Some, refl, sym, ap, Bool, true, false}
use Rattle.std.proofs.lemmas.Result.{err_from_is_err_and}
use Rattle.suit_linear.specs.Tableaus.{Tableau}
use Rattle.suit_linear.specs.Pivots.{leaving}
use Rattle.suit_linear.specs.Runs.{To}
use Rattle.suit_simplex.specs.Dense.{seen, row_at}
use Rattle.suit_simplex.proofs.DenseRuns.{wide_ratio}
use Rattle.suit_linear.proofs.RunSteps.{next_last, next_wide_change, next_to}
use Rattle.suit_simplex.proofs.solving.advance.Goals as goal

same_false : ◌≡◌ {A = Bool} false true → ⊥
same_false e = absurd (cc)

pub returns-in_default : goal.returns-in_default
returns-in_default c = (next_last (seen c.args.dense.now) (sym c.in_default.ensures), c.requires.kept, refl, refl)

pub returns-in_err-index : goal.returns-in_err-index
returns-in_err-index c =
    let p = err_from_is_err_and c.from_residual.result c.from_residual.ensures.1 in
    rw p.1 (wide_ratio c.args.dense.now c.in-Some.column c.requires.can (sym c.in-Some.ensures)
    (λ all. same_false (c.in_err-index.ensures.fits.1 all)))

pub pivot-requires-clause-can : goal.pivot-requires-clause-can
pivot-requires-clause-can c =
    let leaves : leaving (seen c.args.dense.now) c.in-Some.column ≡ Some (row_at c.args.dense.now c.in-Some-2.index) =
    sym (rw c.in-Some-2.is at c.in_ok-index.ensures.value) in
    c.requires.can.pivot c.in-Some.column (row_at c.args.dense.now c.in-Some-2.index) (sym c.in-Some.ensures) leaves

pub returns-in_err-pivot : goal.returns-in_err-pivot
returns-in_err-pivot c =
    let p = err_from_is_err_and c.from_residual-in_err-pivot.result c.from_residual-in_err-pivot.ensures.1 in
    let leaves : leaving (seen c.args.dense.now) c.in-Some.column ≡ Some (row_at c.args.dense.now c.in-Some-2.index) =
    sym (rw c.in-Some-2.is at c.in_ok-index.ensures.value) in
    rw p.1 (next_wide_change (seen c.args.dense.now) c.in-Some.column (row_at c.args.dense.now c.in-Some-2.index)
    (sym c.in-Some.ensures) leaves (λ all. same_false (c.in_err-pivot.ensures.fits.1 all)))

pub returns : goal.returns
returns c =
    let leaves : leaving (seen c.args.dense.now) c.in-Some.column ≡ Some (row_at c.args.dense.now c.in-Some-2.index) =
    sym (rw c.in-Some-2.is at c.in_ok-index.ensures.value) in (
      next_to (seen c.args.dense.now) c.in-Some.column (row_at c.args.dense.now c.in-Some-2.index)
          (sym c.in-Some.ensures) leaves (c.in_ok-index.ensures.fits.0 refl) (c.in_ok-pivot.ensures.fits.0 refl)
          ∙ ap (λ (t : Tableau). To t) (sym c.in_ok-pivot.ensures.value),
      c.in_ok-pivot.ensures.kept,
      c.in_ok-pivot.ensures.width,
    )
