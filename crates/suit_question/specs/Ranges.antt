-- Questions whose single values are in their ranges.
use Rattle.std.specs.Prelude.{◌≤◌}
use Rattle.suit_game.specs.declared.limits.TheConstants.{HAND_SIZE, MOST_NODES, MOST_PIVOTS}
use Rattle.suit_game.specs.declared.question.Question.{Question}
use Rattle.suit_game.specs.Validity.{AreEntries, IsGoal}

pub record HasRanges (question : Question) : Type 0 where
  pub entries_n : AreEntries question.entries_n
  pub entries_s : AreEntries question.entries_s
  pub vacant_w : question.vacant_w ≤ HAND_SIZE
  pub vacant_e : question.vacant_e ≤ HAND_SIZE
  pub west_most : question.west_most ≤ HAND_SIZE
  pub goal : IsGoal question.goal
  pub nodes_least : 1 ≤ question.nodes
  pub nodes_most : question.nodes ≤ MOST_NODES
  pub pivots : question.pivots ≤ MOST_PIVOTS
