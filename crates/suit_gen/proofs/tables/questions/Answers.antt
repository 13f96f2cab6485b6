use Rattle.suit_gen.proofs.RecordNamesItsQuestion.{
  more_questions,
  all_questions,
  questions_count,
  questions_named,
  questions_valid,
}
use Rattle.suit_gen.proofs.tables.questions.Goals as goal

pub loop-preserved : goal.loop-preserved
loop-preserved c =
    more_questions _ _ _ _ _ _ _ _ c.loop-test.true c.in_ok-push.ensures.items c.question.ensures c.drawn.ensures.deal
    c.drawn.ensures.state c.loop.invariant

pub returns-clause-count : goal.returns-clause-count
returns-clause-count c = questions_count _ _ _ (all_questions _ _ _ _ _ c.loop-test.false c.loop.invariant)

pub returns-clause-named : goal.returns-clause-named
returns-clause-named c = questions_named _ _ _ (all_questions _ _ _ _ _ c.loop-test.false c.loop.invariant)

pub returns-clause-valid : goal.returns-clause-valid
returns-clause-valid c = questions_valid _ _ _ (all_questions _ _ _ _ _ c.loop-test.false c.loop.invariant)
