use Rattle.std.proofs.Common.{refl, arith, false, true, ◌≡◌, Bool}
use Rattle.std.proofs.lemmas.Result.{err_from_is_err_and}
use Rattle.suit_simplex.proofs.RatioTestByIndex.{next_best, last_best, not_fitting}
use Rattle.suit_simplex.proofs.dense.Dense.leaving.Goals as goal

same_false : ◌≡◌ {A = Bool} false true → ⊥
same_false e = absurd (cc)

pub returns-in_err-best-clause-fits : goal.returns-in_err-best-clause-fits
returns-in_err-best-clause-fits c =
    let p = err_from_is_err_and c.from_residual.result c.from_residual.ensures.1 in
    rw p.1 (
      λ ok. absurd (cc),
      λ all. absurd (not_fitting c.args.self.now c.args.column c.loop-index.best c.loop-index.index (omega arith)
          c.loop-index.invariant (λ h. same_false (c.in_err-best.ensures.fits.1 h)) all),
    )

pub loop-index-preserved : goal.loop-index-preserved
loop-index-preserved c =
    next_best c.args.self.now c.args.column c.loop-index.best c.in_ok-best.best c.loop-index.index (omega arith)
    c.loop-index.invariant (c.in_ok-best.ensures.fits.0 refl) c.in_ok-best.ensures.value c.in_ok-best.ensures.within

pub returns-clause-fits : goal.returns-clause-fits
returns-clause-fits c = (
  λ ok. (last_best c.args.self.now c.args.column c.loop-index.best c.loop-index.index (omega arith)
      c.loop-index.invariant).1,
  λ all. refl,
)

pub returns-clause-value : goal.returns-clause-value
returns-clause-value c =
    (last_best c.args.self.now c.args.column c.loop-index.best c.loop-index.index (omega arith)
    c.loop-index.invariant).0
