-- The class histories that are reached stand in order (`reached_chained`).
use Rattle.std.proofs.Common.{◌≡◌, ℕ, zero, suc, Bool, true, false, List, [], ◌∷◌, ◌++◌, refl, ap, subst}
use Rattle.std.specs.Prelude.{filter, pos}
use Rattle.std.specs.Int.{int_max}
use Rattle.std.specs.List.{flat_map}
use Rattle.suit_lists.proofs.Chains.{Chained, chained_filter, pairs_chained}
use Rattle.suit_lists.proofs.FlatMaps.{flat_map_alike}
use Rattle.suit_cards.specs.Cards.{ClassLayout}
use Rattle.suit_game.specs.declared.question.Question.{Question}
use Rattle.suit_game.specs.declared.limits.TheConstants.{MOST_MOVES}
use Rattle.suit_classes.specs.declared.class_moves.ClassMove.{ClassMove}
use Rattle.suit_classes.specs.WhatIsAllowed.{every_move, is_among}
use Rattle.suit_classes.specs.MoveOrder.{stands_before}
use Rattle.suit_classes.proofs.ClassMovesRise.{every_move_rises}
use Rattle.suit_plans.specs.BestReplies.{Reply, histories_within}
use Rattle.suit_plans.specs.Orders.{history_before}
use Rattle.suit_plans.proofs.ChoiceOrder.{chained_within}
use Rattle.suit_program.specs.Supports.{Support, histories_from, next_moves, reached_histories, reached_layouts}
use Rattle.suit_program.specs.Supports.{supported_moves}

-- the walk over what is reached, as a play in which nobody replies
abbrev walk : Question → Support → Reply
walk question support = record {
  moves = next_moves question support;
  replies = λ history. false;
  best = int_max;
  earned = λ history. pos 0;
  live = λ history. true;
}

module _ (question : Question) (support : Support) where
  same_histories : (more : ℕ) (history : List ClassMove)
      → histories_within more (walk question support) history ≡ histories_from question support more history
  unfolding histories_within histories_from
  same_histories zero history = refl
  same_histories (suc more) history =
      ap (λ (l : List (List ClassMove)). history ∷ l)
      (flat_map_alike (λ move. histories_within more (walk question support) (history ++ move ∷ []))
      (λ move. histories_from question support more (history ++ move ∷ [])) (next_moves question support history)
      (λ move. same_histories more (history ++ move ∷ [])))

  moves_rise : (history : List ClassMove)
      → Chained (λ here there. stands_before here there ≡ true) (next_moves question support history)
  unfolding next_moves
  moves_rise history =
      let IsBefore : ClassMove → ClassMove → Type 0 = λ here there. stands_before here there ≡ true in
      chained_filter IsBefore
      (is_among (flat_map (λ (layout : ClassLayout × ℕ). supported_moves question support layout.0 history)
      (reached_layouts question support history))) every_move
      (pairs_chained IsBefore every_move every_move_rises)

  pub reached_chained : Chained (λ here there. history_before here there ≡ true) (reached_histories question support)
  unfolding reached_histories
  reached_chained =
      subst (Chained (λ here there. history_before here there ≡ true)) (same_histories MOST_MOVES [])
      (chained_within (walk question support) moves_rise MOST_MOVES [])

-- so do some of them
pub kept_chained : (test : List ClassMove → Bool) (question : Question) (support : Support)
    → Chained (λ here there. history_before here there ≡ true) (filter test (reached_histories question support))
kept_chained test question support =
    chained_filter (λ here there. history_before here there ≡ true) test (reached_histories question support)
    (reached_chained question support)
