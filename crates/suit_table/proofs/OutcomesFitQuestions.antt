-- Outcomes that fit questions place by place fit them one by one (`are_outcomes`).
use Rattle.std.proofs.Common.{◌≡◌, ◌∷◌, [], List, suc, length, arith}
use Rattle.suit_lists.proofs.Basics.{ArePlaced}
use Rattle.suit_game.specs.declared.question.Question.{Question}
use Rattle.suit_table.specs.Outcomes.{Fit}
use Rattle.suit_table.specs.Summaries.{AreOutcomes}
use Rattle.suit_table.specs.declared.outcomes.Outcome.{Outcome}

pub are_outcomes : (Fits : Fit) (questions : List Question) (outcomes : List Outcome)
    → length outcomes ≡ length questions → ArePlaced Fits questions outcomes → AreOutcomes Fits questions outcomes
unfolding AreOutcomes
are_outcomes Fits [] [] same placed = tt
are_outcomes Fits [] (outcome ∷ outcomes) same placed = absurd (omega arith)
are_outcomes Fits (question ∷ questions) [] same placed = absurd (omega arith)
are_outcomes Fits (question ∷ questions) (outcome ∷ outcomes) same placed = (
  placed 0 question outcome (omega arith),
  are_outcomes Fits questions outcomes (omega arith)
      (λ place a b inside. placed (suc place) a b (omega arith)),
)
