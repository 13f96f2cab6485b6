-- Which class histories a plan is told of, and in what order.
use Rattle.std.specs.Prelude.{◌≡◌, ◌↔◌, ◌<◌, ℕ, true, false, Contains, length, pos, ◌<ℤ◌}
use Rattle.suit_cards.specs.Cards.{ClassLayout}
use Rattle.suit_game.specs.declared.question.Question.{Question}
use Rattle.suit_game.specs.Validity.{IsValid}
use Rattle.suit_classes.specs.Classes.{sizes_of}
use Rattle.suit_classes.specs.ClassGame.{Allows}
use Rattle.suit_classes.specs.ClassMoves.{ClassHistory}
use Rattle.suit_classes.specs.ClassPlaces.{class_after, class_decided, class_moves, class_start, class_turn}
use Rattle.suit_layouts.specs.ClassLayouts.{class_layouts}
use Rattle.suit_plans.specs.Masses.{is_declarers, plan_mass}
use Rattle.suit_plans.specs.Orders.{InOrder, history_before}
use Rattle.suit_plans.specs.Properness.{goes_undecided}
use Rattle.suit_plans.specs.declared.plan.Plan.{Plan}
use Rattle.suit_lines.specs.Told.{told_histories}

-- some class layout of positive weight allows a class history
pub record IsAllowed (question : Question) (history : ClassHistory) : Type 0 where
  pub layout : ClassLayout × ℕ
  pub listed : Contains (class_layouts question (sizes_of question)) layout
  pub allows : Allows question layout.0 history

-- a class history is one to be told: it is allowed, and goes past no decided position; play is not decided there, and
-- declarer is on turn; there are two class moves or more, whatever West's counts; and some mass comes to it
pub record IsToBeTold (question : Question) (plan : Plan) (history : ClassHistory) : Type 0 where
  pub allowed : IsAllowed question history
  pub through : goes_undecided (class_start question) history ≡ true
  pub undecided : class_decided (class_after question history) ≡ false
  pub turn : is_declarers (class_turn (class_after question history)) ≡ true
  pub choice : (counts : ClassLayout) → 1 < length (class_moves (class_after question history) counts)
  pub live : pos 0 <ℤ plan_mass question plan history

-- of exactly these a plan is told
abbrev pub ToldExactly : Type 0
ToldExactly = (question : Question) (plan : Plan) (history : ClassHistory) → IsValid question
    → Contains (told_histories question plan) history ↔ IsToBeTold question plan history

-- in their order, and so of each once
abbrev pub ToldInOrder : Type 0
ToldInOrder = (question : Question) (plan : Plan) → InOrder history_before (told_histories question plan)
