-- Supports whose program is made.
use Rattle.std.specs.Prelude.{◌≤◌}
use Rattle.suit_game.specs.declared.question.Question.{Question}
use Rattle.suit_game.specs.Validity.{IsValid}
use Rattle.suit_tree.specs.declared.tree.Tree.{Tree}
use Rattle.suit_tree.specs.Trees.{IsTreeOf}
use Rattle.suit_game.specs.declared.limits.TheConstants.{MOST_SUPPORT}
use Rattle.suit_program.specs.declared.supports.support.Support.{Support as MarkedSupport}
use Rattle.suit_program.specs.Supports.Marks.{support_seen}
use Rattle.suit_program.specs.Programs.{size_of}

-- a tree is that of a question, in which a support has a program of at most 4,000 rows and columns
pub record IsSized (tree : Tree) (support : MarkedSupport) : Type 0 where
  pub question : Question
  pub valid : IsValid question
  pub grown : IsTreeOf question tree
  pub few : size_of question (support_seen question support) ≤ MOST_SUPPORT
