use Rattle.std.proofs.Common.{sym, append-nil}
use Rattle.suit_program.proofs.lemmas.Walks.HowManyColumns.{passed_all, passed_more}
use Rattle.suit_program.proofs.walks.columns.add_here.Goals as goal

pub loop-column-init : goal.loop-column-init
loop-column-init c = λ question support history is. sym (append-nil c.args.passed.now.items)

pub loop-column-preserved : goal.loop-column-preserved
loop-column-preserved c = λ question support history is.
    passed_more question support history c.args.passed.now.items c.loop-column.passed.items c.push.new.self.items
    c.loop-column._column c.columns_here-count.result c.declarer_chooses-own.result
    (c.declarer_chooses-own.ensures question support history is)
    (c.columns_here-count.ensures question support history is) c.loop-column-test.true
    (c.loop-column.invariant question support history is) c.in_ok-push.ensures.items

pub returns : goal.returns
returns c = λ question support history is.
    passed_all question support history c.args.passed.now.items c.loop-column.passed.items c.loop-column._column
    c.columns_here-count.result (c.columns_here-count.ensures question support history is) c.loop-column-test.false
    (c.loop-column.invariant question support history is)
