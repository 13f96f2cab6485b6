use Rattle.std.proofs.Common.{◌∙◌, ◌≤◌, ◌<◌, List, length, ap, arith, refl, get_or}
use Rattle.suit_program.specs.declared.walks.reach.ReachedLayout.{ReachedLayout}
use Rattle.suit_program.specs.Walks.AnswerRows.{layout_at}
use Rattle.suit_program.specs.Programs.{answered_limits}
use Rattle.suit_program.proofs.lemmas.Walks.HowManyAnswers.{answers_all, answers_more, reached_few}
use Rattle.suit_program.proofs.walks.answer_rows.answers_before.Goals as goal
use Rattle.suit_program.specs.declared.walks.reach.TheConstants.{MOST_NEXT}

pub overflow_add-answers : goal.overflow_add-answers
overflow_add-answers c =
    let reached = c.requires.reached in
    let most = reached_few reached.question reached.support reached.history c.args.reach.now reached.reached in
    let few : c.answers_in-answers.result ≤ MOST_NEXT = c.answers_in-answers.ensures.few in
    omega (arith, few, most, c.loop-index.invariant.few, c.requires.many, c.loop-index-test.true)

pub loop-index-preserved : goal.loop-index-preserved
loop-index-preserved c =
    let few : c.answers_in-answers.result ≤ MOST_NEXT = c.answers_in-answers.ensures.few in
    let i = c.loop-index.index in
    let layout = c.index-layouts-index.result in
    let layouts = c.args.reach.now.layouts.items in
    let below : i < length layouts = omega (arith, c.requires.many, c.loop-index-test.true) in
    record {
      few = omega (arith, few, c.loop-index.invariant.few);
      told = λ question support history is.
          answers_more question support history layouts i layout c.loop-index.answers c.answers_in-answers.result below
          (c.loop-index.invariant.told question support history is)
          (c.answers_in-answers.ensures.told question support history is
          ∙ ap (λ (l : ReachedLayout). length (answered_limits question support history (layout_at question l.index)))
          (c.index-layouts-index.is ∙ ap (λ (l : List ReachedLayout). get_or l i layout) c.layouts-layouts.ensures));
    }

pub returns : goal.returns
returns c = λ question support history is.
    answers_all question support history c.args.reach.now is c.args.reach.now.layouts.items refl c.loop-index.index
    c.args.count c.loop-index.answers c.loop-index-test.false c.loop-index.auto.index-end
    (c.loop-index.invariant.told question support history is)
