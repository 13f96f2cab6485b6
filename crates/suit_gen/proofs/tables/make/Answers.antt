use Rattle.suit_gen.proofs.RecordNamesItsQuestion.{texts_more, texts_done}
use Rattle.suit_gen.proofs.tables.make.Goals as goal

pub loop-preserved : goal.loop-preserved
loop-preserved c =
    texts_more _ _ _ _ _ _ _ c.loop-test.true c.in_ok-write_record.ensures c.drawn.ensures.deal c.drawn.ensures.state
    c.loop.invariant

pub returns : goal.returns
returns c = rw c.into_bytes.ensures.value (texts_done _ _ _ _ _ c.loop-test.false c.loop.invariant)
