-- Which answers can be written.
use Rattle.std.specs.Prelude.{⊤, ◌≡◌, ℕ, ◌<◌, ◌≤◌, length, All, ℤ, pos, ◌≤ℤ◌}
use Rattle.suit_cards.specs.declared.seats.Seat.TheVariants.{N, E, S, W}
use Rattle.suit_game.specs.declared.limits.TheConstants.{HAND_SIZE}
use Rattle.suit_game.specs.declared.question.Question.{Question}
use Rattle.suit_classes.specs.Classes.{class_count, defence_classes, hands_of}
use Rattle.suit_classes.specs.ClassMoves.{ClassHistory}
use Rattle.suit_classes.specs.declared.class_moves.ClassMove.{ClassMove}
use Rattle.suit_classes.specs.declared.class_moves.ClassMove.TheVariants.{Lead, Follow, ShowOut}
use Rattle.suit_plans.specs.Masses.{Shares}
use Rattle.suit_plans.specs.declared.plan.Plan.{Plan}
use Rattle.suit_plans.specs.declared.plan.Row.{Row}
use Rattle.suit_plans.specs.declared.defence.Defence.{Defence}
use Rattle.suit_plans.specs.declared.defence.DefenceRow.{DefenceRow}
use Rattle.suit_num.specs.Narrow.{IsNarrow}
use Rattle.suit_answer.specs.declared.answer.Answer.{Answer}
use Rattle.suit_answer.specs.declared.parts.TheConstants.{MOST_ROWS}

-- a number that can be written: it is at least 0, and fits 127 bits
pub record IsWritableNumber (number : ℤ) : Type 0 where
  pub least : pos 0 ≤ℤ number
  pub narrow : IsNarrow number

-- a move that can be written, where there are so many classes: only declarer leads
abbrev pub IsWritableMove : ℕ → ClassMove → Type 0
IsWritableMove classes (Lead N class) = class < classes
IsWritableMove classes (Lead S class) = class < classes
IsWritableMove classes (Lead E class) = ⊥
IsWritableMove classes (Lead W class) = ⊥
IsWritableMove classes (Follow class) = class < classes
IsWritableMove classes ShowOut = ⊤

-- a move and a count that can be written
abbrev pub IsWritableShare : ℕ → ClassMove × ℤ → Type 0
IsWritableShare classes share = IsWritableMove classes share.0 × IsWritableNumber share.1

-- a history, and at least one move with its count
pub record IsWritableTurn (classes : ℕ) (history : ClassHistory) (shares : Shares) : Type 0 where
  pub moves : All (IsWritableMove classes) history
  pub pairs : All (IsWritableShare classes) shares
  pub some : 0 < length shares

-- a row of a plan that can be written
abbrev pub IsWritableRow : ℕ → Row → Type 0
IsWritableRow classes row = IsWritableTurn classes row.history row.counts

-- a row of a defence that can be written, where the defenders have so many classes
pub record IsWritableDefenceRow (classes defenders : ℕ) (row : DefenceRow) : Type 0 where
  pub blocks : length row.west ≡ defenders
  pub small : All (λ count. count ≤ HAND_SIZE) row.west
  pub turn : IsWritableTurn classes row.history row.counts

-- a plan that can be written
pub record IsWritablePlan (classes : ℕ) (plan : Plan) : Type 0 where
  pub den : IsWritableNumber plan.den
  pub few : length plan.rows ≤ MOST_ROWS
  pub rows : All (IsWritableRow classes) plan.rows

-- a defence that can be written, where the defenders have so many classes
pub record IsWritableDefence (classes defenders : ℕ) (defence : Defence) : Type 0 where
  pub den : IsWritableNumber defence.den
  pub few : length defence.rows ≤ MOST_ROWS
  pub rows : All (IsWritableDefenceRow classes defenders) defence.rows

-- a plan for a question, and a defence
abbrev pub IsWritablePlanFor : Question → Plan → Type 0
IsWritablePlanFor question plan = IsWritablePlan (class_count (hands_of question)) plan

abbrev pub IsWritableDefenceFor : Question → Defence → Type 0
IsWritableDefenceFor question defence =
    IsWritableDefence (class_count (hands_of question)) (length (defence_classes (hands_of question))) defence

-- an answer to a question that can be written; its value is in lowest terms by its type
pub record IsWritable (question : Question) (answer : Answer) : Type 0 where
  pub num : IsWritableNumber answer.value.num
  pub den : IsWritableNumber answer.value.den
  pub plan : IsWritablePlanFor question answer.plan
  pub defence : IsWritableDefenceFor question answer.defence
