-- Which questions make sense.
use Rattle.std.specs.Prelude.{◌+◌, ◌<◌, ◌≤◌, not, length, IsTrue}
use Rattle.std.specs.List.{list_any}
use Rattle.suit_cards.specs.Holdings.{IsHolding, holds}
use Rattle.suit_game.specs.declared.question.Question.{Question}
use Rattle.suit_game.specs.declared.question.Entries.{Entries}
use Rattle.suit_game.specs.declared.question.Entries.TheVariants.{Count, Free}
use Rattle.suit_game.specs.declared.question.Goal.{Goal}
use Rattle.suit_game.specs.declared.question.Goal.TheVariants.{AtLeast, Tricks}
use Rattle.suit_game.specs.Question.{missing}
use Rattle.suit_game.specs.Layouts.{total}
use Rattle.suit_game.specs.declared.limits.TheConstants.{HAND_SIZE, MOST_NODES, MOST_PIVOTS}

-- a count of entries is at most 13
abbrev pub AreEntries : Entries → Type 0
AreEntries Free = Unit {0}
AreEntries (Count left) = left ≤ HAND_SIZE

-- a goal asks for 13 tricks at most
abbrev pub IsGoal : Goal → Type 0
IsGoal Tricks = Unit {0}
IsGoal (AtLeast least) = least ≤ HAND_SIZE

-- a question is valid
pub record IsValid (question : Question) : Type 0 where
  -- the declarer hands are holdings that share no card, and are not both empty
  pub north : IsHolding question.north
  pub south : IsHolding question.south
  pub apart : IsTrue (not (list_any (holds question.south) question.north))
  pub some_card : 0 < length question.north + length question.south
  pub entries_n : AreEntries question.entries_n
  pub entries_s : AreEntries question.entries_s
  pub vacant_w : question.vacant_w ≤ HAND_SIZE
  pub vacant_e : question.vacant_e ≤ HAND_SIZE
  pub range : question.west_least ≤ question.west_most
  pub west_most : question.west_most ≤ HAND_SIZE
  -- the missing cards fit into the vacant places
  pub places : length (missing question) ≤ question.vacant_w + question.vacant_e
  pub goal : IsGoal question.goal
  -- the budgets
  pub nodes_least : 1 ≤ question.nodes
  pub nodes_most : question.nodes ≤ MOST_NODES
  pub pivots : question.pivots ≤ MOST_PIVOTS
  -- some layout has a weight
  pub has_weight : 0 < total question
