-- What is written from a class history on, and what a walk knows there, for the contracts of private functions.
use Rattle.std.specs.Prelude.{◌≡◌, ℕ, ◌-◌, ◌<◌, Bool, List, [], ◌∷◌, ◌++◌, length, filter, map, All, ℤ, pos, ◌<ℤ◌}
use Rattle.std.specs.Prelude.{if◌then◌else◌}
use Rattle.std.specs.List.{flat_map, list_any}
use Rattle.suit_cards.specs.Cards.{ClassLayout, Text}
use Rattle.suit_game.specs.declared.question.Question.{Question}
use Rattle.suit_game.specs.declared.limits.TheConstants.{MOST_MOVES}
use Rattle.suit_game.specs.Validity.{IsValid}
use Rattle.suit_classes.specs.declared.class_moves.ClassMove.{ClassMove}
use Rattle.suit_classes.specs.WhatIsAllowed.{every_move, is_among}
use Rattle.suit_classes.specs.Classes.{class_count, hands_of}
use Rattle.suit_classes.specs.ClassMoves.{ClassHistory}
use Rattle.suit_classes.specs.ClassPlaces.{ClassView, class_after, class_decided, class_moves}
use Rattle.suit_plans.specs.BestReplies.{allowing_layouts}
use Rattle.suit_plans.specs.Masses.{plan_mass}
use Rattle.suit_plans.specs.Properness.{IsProperPlan}
use Rattle.suit_plans.specs.declared.plan.Plan.{Plan}
use Rattle.suit_answer.specs.Writable.{IsWritableMove}
use Rattle.suit_lines.specs.Histories.{continued}
use Rattle.suit_lines.specs.Lines.{history_line}
use Rattle.suit_lines.specs.Told.{is_told}

-- whether some counts of West's have a move at a position
abbrev pub some_have : ClassView → List ClassLayout → ClassMove → Bool
some_have view all move = list_any (λ counts. is_among (class_moves view counts) move) all

-- the moves that some counts of West's have at a position, in their order, and none where it is decided
unfoldable pub moves_for : ClassView → List ClassLayout → List ClassMove
moves_for view all = if class_decided view then [] else filter (some_have view all) every_move

-- those of some counts of West's that have a move
unfoldable pub having : ClassView → List ClassLayout → ClassMove → List ClassLayout
having view all move = filter (λ counts. is_among (class_moves view counts) move) all

-- West's counts in the class layouts of positive weight that allow a class history
unfoldable pub allowing_counts : Question → ClassHistory → List ClassLayout
allowing_counts question history = map (λ (layout : ClassLayout × ℕ). layout.0) (allowing_layouts question history)

-- the lines of a class history and of those that go on from it
unfoldable pub lines_from : Question → Plan → ClassHistory → Text
lines_from question plan history =
    flat_map (history_line question plan)
    (filter (is_told question plan) (continued (MOST_MOVES - length history) question history))

-- the line of a class history, where the plan is told of it
abbrev pub own_line : Question → Plan → ClassHistory → Text
own_line question plan history = if is_told question plan history then history_line question plan history else []

-- the lines of a class history with a live move more, and of those that go on from it
abbrev pub next_lines : Question → Plan → ClassHistory → ClassMove × ℤ → Text
next_lines question plan history share = lines_from question plan (history ++ share.0 ∷ [])

-- a walk stands at a class history: some counts of West's allow it, and some mass comes to it
pub record StandsAt (question : Question) (plan : Plan) (history : ClassHistory) (view : ClassView) (mass : ℤ)
    (counts : List ClassLayout) : Type 0 where
  pub valid : IsValid question
  pub proper : IsProperPlan question plan
  pub place : view ≡ class_after question history
  pub mass_is : mass ≡ plan_mass question plan history
  pub counts_are : counts ≡ allowing_counts question history
  pub live : pos 0 <ℤ mass
  pub some : 0 < length counts
  pub writable : All (IsWritableMove (class_count (hands_of question))) history
