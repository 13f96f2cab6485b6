use Rattle.std.proofs.Common.{◌≡◌, ◌≤◌, ◌*◌, length, take}
use Rattle.suit_program.specs.Walks.Reaches.{Reached}
use Rattle.suit_program.proofs.lemmas.Walks.HowManyAnswers.{answered_by}
use Rattle.suit_program.proofs.walks.answer_rows.answers_before.Given as goal
use Rattle.suit_program.specs.declared.walks.reach.TheConstants.{MOST_NEXT}

abbrev pub invariant-loop-index : goal.invariant-loop-index
invariant-loop-index l = record {
  few : l.answers ≤ l.index * MOST_NEXT;
  told : Reached l.reach (λ question support history. l.answers
      ≡ length (answered_by question support history (take l.index l.reach.layouts.items)));
}
