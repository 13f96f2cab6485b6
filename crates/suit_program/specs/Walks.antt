-- Walks over the reached class histories, for the contracts of private functions.
pub mod AnswerRows
pub mod DefenceLists
pub mod DefenceWalks
pub mod LedgerOf
pub mod Ledgers
pub mod PlanWalks
pub mod Reaches
pub mod SupportSizes
pub mod Writing
use Rattle.std.specs.Prelude.{◌≡◌, ℕ, ◌+◌, ◌-◌, ◌≤◌, List, ◌++◌, drop, length}
use Rattle.std.specs.List.{flat_map}
use Rattle.suit_game.specs.declared.question.Question.{Question}
use Rattle.suit_game.specs.declared.limits.TheConstants.{MOST_MOVES}
use Rattle.suit_classes.specs.ClassMoves.{ClassHistory}
use Rattle.suit_program.specs.declared.walks.reach.Reach.{Reach}
use Rattle.suit_program.specs.Walks.Reaches.{IsReach}
use Rattle.suit_program.specs.Supports.{Support, histories_from}

-- what stands at the reached class histories from one on, in their order
abbrev pub walked : {X : Type 0} → (ClassHistory → List X) → Question → Support → ClassHistory → List X
walked piece question support history =
    flat_map piece (histories_from question support (MOST_MOVES - length history) history)

-- some elements stand in a list from an index on
pub record StandsIn {X : Type 0} (all : List X) (index : ℕ) (some : List X) : Type 0 where
  pub rest : List X
  pub from : drop index all ≡ some ++ rest
  pub within : index + length some ≤ length all

-- a walk is at a class history, which at most so many moves may follow
pub record IsWalkAt (reach : Reach) (more : ℕ) : Type 0 where
  pub question : Question
  pub support : Support
  pub history : ClassHistory
  pub reached : IsReach question support history reach
  pub room : more ≡ MOST_MOVES - length history
