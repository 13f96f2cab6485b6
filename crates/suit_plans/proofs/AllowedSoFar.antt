-- A walk through a class history that counts of West's allow so far.
use Rattle.std.proofs.Common.{◌≡◌, ℕ, ◌+◌, ◌<◌, ◌≤◌, Bool, true, false, ◌&&◌, List, [], ◌∷◌, ◌++◌, length, get_or, drop}
use Rattle.std.proofs.Common.{take, sym, ap, ◌∙◌, subst}
use Rattle.std.specs.Prelude.{not}
use Rattle.std.proofs.lemmas.List.{at_drop_more, drop_all, take_all, take_more}
use Rattle.suit_cards.specs.Cards.{ClassLayout}
use Rattle.suit_game.specs.declared.question.Question.{Question}
use Rattle.suit_game.specs.Validity.{IsValid}
use Rattle.suit_classes.specs.declared.class_moves.ClassMove.{ClassMove}
use Rattle.suit_classes.specs.WhatIsAllowed.{allows_from, is_among}
use Rattle.suit_classes.specs.Classes.{sizes_of}
use Rattle.suit_classes.specs.ClassGame.{Allows}
use Rattle.suit_classes.specs.declared.class_view.ClassView.{ClassView}
use Rattle.suit_classes.specs.ClassPlaces.{class_after, class_decided, class_moves, class_start, class_step}
use Rattle.suit_classes.proofs.AllowedMoveByMove.{allowed_moves}
use Rattle.suit_classes.proofs.CountsAllowAsTold.{layouts_allow}
use Rattle.suit_classes.proofs.DecidedStaysDecided.{class_histories_are_short}
use Rattle.suit_classes.proofs.SameMoves.{among-Contains}
use Rattle.suit_classes.proofs.SmallCounts.{class_after_move}
use Rattle.suit_layouts.proofs.CountsOfALayout.{class_layouts_held}
use Rattle.suit_plans.specs.Masses.{weight_of}
use Rattle.suit_plans.specs.Properness.{goes_undecided}
use Rattle.suit_game.specs.declared.limits.TheConstants.{MOST_MOVES}
use Rattle.suit_classes.specs.ClassMoves.{ClassHistory}

-- so many moves are made, and counts allow them
pub record IsAllowedWalk (question : Question) (counts : ClassLayout) (history : ClassHistory) (made : ℕ)
    (place : ClassView) : Type 0 where
  pub at : place ≡ class_after question (take made history)
  pub allowed : Allows question counts (take made history)
  pub left : allows_from counts place (drop made history) ≡ allows_from counts (class_start question) history

-- no more than 52 are
pub walked_short : (question : Question) (counts : ClassLayout) (history : ClassHistory) (made : ℕ) (place : ClassView)
    → IsAllowedWalk question counts history made place
    → length (take made history) ≤ MOST_MOVES
walked_short question counts history made place walk =
    class_histories_are_short question counts (take made history) walk.allowed

-- a class layout of positive weight allows the empty history
pub start_allows : (question : Question) (counts : ClassLayout) → IsValid question → 0 < weight_of question counts
    → Allows question counts []
start_allows question counts valid weighs =
    let held = class_layouts_held question (sizes_of question) counts weighs in
    layouts_allow question held.0 counts valid held.1 held.2

pub walk_first : (question : Question) (counts : ClassLayout) (history : ClassHistory) (place : ClassView)
    → Allows question counts [] → place ≡ class_start question
    → IsAllowedWalk question counts history 0 place
walk_first question counts history place allowed is =
    record { at = is; allowed = allowed; left = ap (λ (v : ClassView). allows_from counts v history) is }

-- a move that is among those for the counts
pub walk_on : (question : Question) (counts : ClassLayout) (history : ClassHistory) (made : ℕ) (d : ClassMove)
    (place : ClassView) (b : Bool) → made < length history
    → IsAllowedWalk question counts history made place → b ≡ is_among (class_moves place counts) (get_or history made d)
    → (b && allows_from counts (class_step place (get_or history made d)) (drop (made + 1) history))
    ≡ allows_from counts (class_start question) history
unfolding allows_from
walk_on question counts history made d place b below walk is =
    ap (λ (t : Bool). t && allows_from counts (class_step place (get_or history made d)) (drop (made + 1) history)) is
    ∙ sym (at_drop_more (allows_from counts place) history made d below) ∙ walk.left

pub walk_next : (question : Question) (counts : ClassLayout) (history : ClassHistory) (made : ℕ) (d : ClassMove)
    (place next : ClassView) → made < length history
    → IsAllowedWalk question counts history made place
    → true ≡ is_among (class_moves place counts) (get_or history made d)
    → next ≡ class_after question (take made history ++ get_or history made d ∷ [])
    → IsAllowedWalk question counts history (made + 1) next
walk_next question counts history made d place next below walk among is =
    let move : ClassMove = get_or history made d in
    let more : take (made + 1) history ≡ take made history ++ move ∷ [] = take_more history made d below in
    let stepped : next ≡ class_step place move = is ∙ class_after_move question (take made history) move
    ∙ ap (λ (v : ClassView). class_step v move) (sym walk.at) in
    let listed : is_among (class_moves (class_after question (take made history)) counts) move ≡ true =
    ap (λ (v : ClassView). is_among (class_moves v counts) move) (sym walk.at) ∙ sym among in
    record {
      at = is ∙ ap (class_after question) (sym more);
      allowed = subst (Allows question counts) (sym more)
          ((allowed_moves question counts (take made history) move).1 (
            walk.allowed,
            among-Contains (class_moves (class_after question (take made history)) counts) move listed,
          ));
      left = ap (λ (v : ClassView). allows_from counts v (drop (made + 1) history)) stepped
          ∙ walk_on question counts history made d place true below walk among;
    }

pub walk_last : (question : Question) (counts : ClassLayout) (history : ClassHistory) (made : ℕ) (place : ClassView)
    → length history ≤ made
    → IsAllowedWalk question counts history made place → true ≡ allows_from counts (class_start question) history
unfolding allows_from
walk_last question counts history made place past walk =
    sym (ap (allows_from counts place) (drop_all made history past)) ∙ walk.left

-- a walk that goes past no decided position
pub record IsUndecidedWalk (question : Question) (history : ClassHistory) (made : ℕ) (place : ClassView) : Type
    0 where
  pub at : place ≡ class_after question (take made history)
  pub left : goes_undecided place (drop made history) ≡ goes_undecided (class_start question) history

pub undecided_on : (question : Question) (history : ClassHistory) (made : ℕ) (d : ClassMove) (place : ClassView)
    (b : Bool) → made < length history
    → IsUndecidedWalk question history made place → b ≡ class_decided place
    → (not b && goes_undecided (class_step place (get_or history made d)) (drop (made + 1) history))
    ≡ goes_undecided (class_start question) history
unfolding goes_undecided
undecided_on question history made d place b below walk is =
    ap (λ (t : Bool). not t && goes_undecided (class_step place (get_or history made d)) (drop (made + 1) history)) is
    ∙ sym (at_drop_more (goes_undecided place) history made d below) ∙ walk.left

pub undecided_next : (question : Question) (history : ClassHistory) (made : ℕ) (d : ClassMove)
    (place next : ClassView) → made < length history
    → IsUndecidedWalk question history made place → false ≡ class_decided place
    → next ≡ class_after question (take made history ++ get_or history made d ∷ [])
    → IsUndecidedWalk question history (made + 1) next
undecided_next question history made d place next below walk undecided is =
    let move : ClassMove = get_or history made d in
    let stepped : next ≡ class_step place move = is ∙ class_after_move question (take made history) move
    ∙ ap (λ (v : ClassView). class_step v move) (sym walk.at) in
    record {
      at = is ∙ ap (class_after question) (sym (take_more history made d below));
      left = ap (λ (v : ClassView). goes_undecided v (drop (made + 1) history)) stepped
          ∙ undecided_on question history made d place false below walk undecided;
    }

pub undecided_last : (question : Question) (history : ClassHistory) (made : ℕ) (place : ClassView)
    → length history ≤ made
    → IsUndecidedWalk question history made place → (goes_undecided (class_start question) history ≡ true)
    × (place ≡ class_after question history)
unfolding goes_undecided
undecided_last question history made place past walk = (
  sym walk.left ∙ ap (goes_undecided place) (drop_all made history past),
  walk.at
      ∙ ap (class_after question) (take_all made history past),
)
