-- The outcomes that were counted are those of the questions.
use Rattle.std.proofs.Common.{◌≡◌}
use Rattle.std.proofs.lemmas.Result.{IfOk-weaker}
use Rattle.suit_table.specs.Summaries.{IsSummary, summary_line}
use Rattle.suit_table.proofs.SummaryIsMet.{all_valid, summary_met}
use Rattle.suit_table.proofs.summaries.summary.Goals as goal

pub judge_all-requires-clause-valid : goal.judge_all-requires-clause-valid
judge_all-requires-clause-valid g c κs within =
    rw c.deref.ensures.value
    (all_valid c.args.questions.now c.in_ok-entries.entries.items c.in_ok-entries.ensures.count
    c.in_ok-entries.ensures.each c.requires.valid)

pub returns : goal.returns
returns g c =
    let judged = rw c.deref.ensures.value at c.in_ok-told.ensures in
    let found = rw c.deref-2.ensures.value at c.in_ok-outcomes.ensures in
    let line = rw c.deref-3.ensures.value at c.summary_line.ensures in
    IfOk-weaker c.summary_line.result
    (λ text. text.items ≡ summary_line c.in_ok-outcomes.outcomes.items)
    (λ text. IsSummary (g.J.Judge.fits c.args.judge.now) c.args.questions.now text.items)
    (λ text is.
    summary_met (g.J.Judge.fits c.args.judge.now) c.args.questions.now c.in_ok-entries.entries.items
    c.in_ok-told.told.items c.in_ok-outcomes.outcomes.items text.items c.in_ok-entries.ensures.count judged.count
    found.count c.in_ok-entries.ensures.each judged.each found.each is)
    line
