-- allowing_at: the class layouts that allow a class history, told by their indices.
use Rattle.std.proofs.Common.{◌≡◌, ℕ, ◌≤◌, Bool, List, [], ◌∷◌, ◌++◌, length, map}
use Rattle.std.proofs.Common.{sym, ap, ◌∙◌}
use Rattle.std.specs.Prelude.{filter, nat_lt, if◌then◌else◌, ℤ, pos, ◌*ℤ◌, int_lt}
use Rattle.std.specs.List.{list_any}
use Rattle.std.proofs.lemmas.List.{length-map}
use Rattle.std.proofs.lemmas.List.Elements.{filter_agree}
use Rattle.std.proofs.lemmas.Simd.{map-map}
use Rattle.suit_lists.proofs.Filters.{any_kept, filter_of_map}
use Rattle.suit_lists.proofs.Tests.{any_of_map}
use Rattle.suit_lists.proofs.Walks.{by_indices}
use Rattle.suit_cards.specs.Cards.{ClassLayout}
use Rattle.suit_game.specs.declared.question.Question.{Question}
use Rattle.suit_classes.specs.declared.class_moves.ClassMove.{ClassMove}
use Rattle.suit_classes.specs.WhatIsAllowed.{allows, every_move}
use Rattle.suit_classes.specs.ClassPlaces.{class_after, class_decided, class_payoff}
use Rattle.suit_classes.specs.Classes.{defence_sizes, hands_of}
use Rattle.suit_classes.proofs.DefenceSizes.{defence_sizes-some, length-defence_sizes, sum-defence_sizes}
use Rattle.suit_classes.specs.ClassMoves.{ClassHistory}
use Rattle.suit_layouts.proofs.FewCounts.{class_layouts_few}
use Rattle.suit_layouts.specs.declared.class_list.TheConstants.{MOST_CLASS_LAYOUTS}
use Rattle.suit_plans.specs.BestReplies.{allowing_layouts, reply_to_defence}
use Rattle.suit_plans.specs.Masses.{defence_mass}
use Rattle.suit_plans.specs.Properness.{some_allows, sum_of}
use Rattle.suit_plans.specs.declared.defence.Defence.{Defence}
use Rattle.suit_tree.specs.Trees.{allowing, layout_indices, moves_on}
use Rattle.suit_reply.specs.LayoutsReplies.{layout_at}
use Rattle.suit_reply.proofs.OwnMovesGoOn.{layout_counts, layouts_of}

-- ---- class layouts

-- a question has few class layouts
pub layouts_few : (question : Question) → length (layouts_of question) ≤ MOST_CLASS_LAYOUTS
layouts_few question =
    let hands = hands_of question in
    class_layouts_few question (defence_sizes hands)
    (record { some = defence_sizes-some hands; filled = sum-defence_sizes hands; few = length-defence_sizes hands })

-- the class layouts that allow a class history stand at the indices that allow it
pub allowing_at : (question : Question) (history : ClassHistory)
    → allowing_layouts question history ≡ map (layout_at question) (allowing question history)
unfolding allowing
allowing_at question history =
    let layouts : List (ClassLayout × ℕ) = layouts_of question in
    let may : ClassLayout × ℕ → Bool = λ layout. allows question layout.0 history in
    ap (filter may) (sym (by_indices layouts ([], 0))) ∙ filter_of_map may (layout_at question) (layout_indices layouts)

-- some class layout allows a class history where some index does
pub some_allows_at : (question : Question) (history : ClassHistory)
    → some_allows question history ≡ nat_lt 0 (length (allowing question history))
unfolding some_allows
some_allows_at question history =
    any_kept (λ (layout : ClassLayout × ℕ). allows question layout.0 history) (layouts_of question)
    ∙ ap (λ (l : List (ClassLayout × ℕ)). nat_lt 0 (length l)) (allowing_at question history)
    ∙ ap (nat_lt 0) (length-map (allowing question history) (layout_at question))

-- ---- the reply to a defence

-- what the defence lets through to a class history in the class layout at an index
abbrev pub mass_at : Question → Defence → ClassHistory → ℕ → ℤ
mass_at question defence history index = defence_mass question defence (layout_counts question index) history

module _ (question : Question) (defence : Defence) (history : ClassHistory) where
  -- it goes on with the moves by which the tree does
  pub reply_goes_on : (reply_to_defence question defence).moves history ≡ moves_on question history
  unfolding moves_on
  reply_goes_on =
      ap (λ (l : List ClassMove). if class_decided (class_after question history) then [] else l)
      (filter_agree (λ move. some_allows question (history ++ move ∷ []))
      (λ move. nat_lt 0 (length (allowing question (history ++ move ∷ []))))
      (λ move. some_allows_at question (history ++ move ∷ [])) every_move)

  -- what it earns where a class history is decided, by indices
  pub earned_at : (reply_to_defence question defence).earned history
      ≡ sum_of (map (λ index. pos (class_payoff (class_after question history))
      *ℤ mass_at question defence history index) (allowing question history))
  earned_at =
      let earns : ClassLayout × ℕ → ℤ =
      λ layout. pos (class_payoff (class_after question history)) *ℤ defence_mass question defence layout.0 history in
      ap (λ (l : List (ClassLayout × ℕ)). sum_of (map earns l)) (allowing_at question history)
      ∙ ap sum_of (map-map earns (layout_at question) (allowing question history))

  -- some mass comes to a class history where some does at an index
  pub live_at : (reply_to_defence question defence).live history ≡ list_any
      (λ index. int_lt (pos 0) (mass_at question defence history index)) (allowing question history)
  live_at =
      let some : ClassLayout × ℕ → Bool = λ layout. int_lt (pos 0) (defence_mass question defence layout.0 history) in
      ap (list_any some) (allowing_at question history)
      ∙ any_of_map some (layout_at question) (allowing question history)
