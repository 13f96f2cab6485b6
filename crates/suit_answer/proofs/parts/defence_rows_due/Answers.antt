use Rattle.std.proofs.Common.{arith}
use Rattle.std.proofs.lemmas.Result.{err_from_is_err_and}
use Rattle.suit_answer.proofs.RowLoops.{goes_on, cut_off, bad_row, is_done}
use Rattle.suit_answer.proofs.parts.defence_rows_due.Goals as goal

pub returns-in_err-next-clause-value : goal.returns-in_err-next-clause-value
returns-in_err-next-clause-value c =
    let stop = err_from_is_err_and c.from_residual.result c.from_residual.ensures.1 in
    rw (stop.1, stop.2)
    (cut_off _ _ c.args.line c.args.count c.loop-index.index _ _ _ c.loop-index-test.true c.in_err-next.ensures.value
    c.loop-index.invariant.same)

pub returns-in_err-row-clause-value : goal.returns-in_err-row-clause-value
returns-in_err-row-clause-value c =
    let stop = err_from_is_err_and c.from_residual-in_err-row.result c.from_residual-in_err-row.ensures.1 in
    rw (stop.1, stop.2)
    (bad_row _ _ c.args.line c.args.count c.loop-index.index _ _ _ _ _ c.loop-index-test.true
    c.in_ok-next.ensures.value c.in_err-row.ensures c.loop-index.invariant.same)

pub loop-index-preserved : goal.loop-index-preserved
loop-index-preserved c = record {
  same =
      rw c.in_ok-push.ensures.items
      (goes_on _ _ c.args.line c.args.count c.loop-index.index _ _ _ _ _ c.loop-index-test.true
      c.in_ok-next.ensures.value c.in_ok-row.ensures c.loop-index.invariant.same);
  shorter = omega (arith, c.in_ok-next.ensures.shorter, c.loop-index.invariant.shorter);
  kept = omega (arith, c.in_ok-push.ensures.len, c.loop-index.invariant.kept);
}

pub returns-clause-value : goal.returns-clause-value
returns-clause-value c =
    is_done _ _ c.args.line c.args.count c.loop-index.index _ _ c.loop-index-test.false c.loop-index.invariant.same
