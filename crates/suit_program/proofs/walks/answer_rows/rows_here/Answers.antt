use Rattle.std.proofs.Common.{List, length, sym, ap}
use Rattle.suit_program.specs.declared.walks.reach.ReachedLayout.{ReachedLayout}
use Rattle.suit_program.proofs.lemmas.Walks.HowManyAnswers.{answers_rows, answers_whole, shared_row}
use Rattle.suit_program.proofs.walks.answer_rows.rows_here.Goals as goal

pub returns-then-declarer_chooses : goal.returns-then-declarer_chooses
returns-then-declarer_chooses c = λ question support history is.
    shared_row question support history (sym (c.if-declarer_chooses.ensures question support history is))

pub returns-else-declarer_chooses : goal.returns-else-declarer_chooses
returns-else-declarer_chooses c = λ question support history is.
    answers_rows question support history c.answers_before.result
    (sym (c.if-declarer_chooses.ensures question support history is))
    (answers_whole question support history c.args.reach.now is (length c.layouts.result.now) c.answers_before.result
    (ap (λ (l : List ReachedLayout). length l) c.layouts.ensures)
    (c.answers_before.ensures question support history is))
