-- Bounds of what the rows speak of: class histories that are allowed are short, and class layouts weigh little.
use Rattle.std.proofs.Common.{◌≡◌, ℕ, ◌<◌, ◌≤◌, true, List, [], ◌∷◌, length, refl, sym, ◌∙◌, inl, inr}
use Rattle.std.proofs.Common.{arith}
use Rattle.std.specs.List.{AllByRecursion}
use Rattle.std.proofs.lemmas.Bool.{cases_lt, false≢true, or_cases}
use Rattle.suit_lists.proofs.Sums.{term_small}
use Rattle.suit_cards.specs.Cards.{ClassLayout}
use Rattle.suit_game.specs.declared.question.Question.{Question}
use Rattle.suit_game.specs.Validity.{IsValid}
use Rattle.suit_game.proofs.WhatAllLayoutsWeigh.{total_at_most}
use Rattle.suit_classes.specs.declared.class_moves.ClassMove.{ClassMove}
use Rattle.suit_classes.specs.WhatIsAllowed.{allows}
use Rattle.suit_classes.specs.Classes.{defence_sizes, hands_of, sizes_of}
use Rattle.suit_classes.proofs.CountsAllowAsTold.{allows_tells}
use Rattle.suit_classes.proofs.DecidedStaysDecided.{class_histories_are_short}
use Rattle.suit_classes.proofs.DefenceSizes.{sum-defence_sizes}
use Rattle.suit_layouts.specs.ClassLayouts.{class_layouts}
use Rattle.suit_layouts.proofs.ClassWeights.{class_weights_add_up}
use Rattle.suit_layouts.proofs.WhatHasWeightIsListed.{class_layouts_exact}
use Rattle.suit_plans.specs.Masses.{weight_of}
use Rattle.suit_plans.specs.Properness.{some_allows}
use Rattle.suit_plans.proofs.AllowedSoFar.{start_allows}
use Rattle.suit_plans.proofs.SomeLayoutAllows.{any_allows, all_to_come}
use Rattle.suit_game.specs.declared.limits.TheConstants.{MOST_MOVES, MOST_TOTAL}
use Rattle.suit_classes.specs.ClassMoves.{ClassHistory}

-- a class history that a class layout of positive weight allows has at most 52 moves
pub allowed_short : (question : Question) (counts : ClassLayout) (history : ClassHistory) → IsValid question
    → 0 < weight_of question counts → true ≡ allows question counts history
    → length history ≤ MOST_MOVES
allowed_short question counts history valid weighs told =
    class_histories_are_short question counts history
    ((allows_tells question counts history (start_allows question counts valid weighs)).0 (sym told))

short_if_any : (question : Question) (history : ClassHistory) (layouts : List (ClassLayout × ℕ)) → IsValid question
    → AllByRecursion (λ (layout : ClassLayout × ℕ). 0 < weight_of question layout.0) layouts
    → any_allows question history layouts ≡ true → length history ≤ MOST_MOVES
short_if_any question history [] valid weigh told = absurd (false≢true told)
short_if_any question history (layout ∷ layouts) valid weigh told =
    elim (or_cases (allows question layout.0 history) (any_allows question history layouts) told) [
      | inl here ↦ allowed_short question layout.0 history valid weigh.0 (sym here)
      | inr there ↦ short_if_any question history layouts valid weigh.1 there
    ]

-- and so has one that some class layout allows
pub some_allowed_short : (question : Question) (history : ClassHistory) → IsValid question
    → true ≡ some_allows question history → length history ≤ MOST_MOVES
some_allowed_short question history valid told =
    let come = all_to_come question history in
    short_if_any question history (class_layouts question (sizes_of question)) valid come.weigh (come.left ∙ sym told)

-- no class layout weighs more than all do
pub weight_at_most : (question : Question) (counts : ClassLayout) → IsValid question
    → weight_of question counts ≤ MOST_TOTAL
weight_at_most question counts valid =
    let sizes = defence_sizes (hands_of question) in
    elim (cases_lt 0 (weight_of question counts)) [
      | inl weighs ↦
          omega (
            arith,
            term_small (λ (layout : ClassLayout × ℕ). layout.1) (class_layouts question sizes) (
              counts,
              weight_of question counts,
            )
                ((class_layouts_exact question sizes counts (weight_of question counts)
                (sum-defence_sizes (hands_of question))).1 (refl, weighs)),
            class_weights_add_up question sizes (sum-defence_sizes (hands_of question)),
            total_at_most question valid,
          )
      | inr none ↦ omega (arith, none)
    ]
