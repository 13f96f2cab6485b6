-- Why there is no verdict.
use Rattle.std.specs.Prelude.{⊤, ◌≡◌, ◌<◌}
use Rattle.suit_game.specs.declared.question.Question.{Question}
use Rattle.suit_tree.specs.WhatIsCounted.{node_count}
use Rattle.suit_tree.specs.declared.tree_end.TreeEnd.{TreeEnd}
use Rattle.suit_tree.specs.declared.tree_end.TreeEnd.TheVariants as grown
use Rattle.suit_check.specs.declared.ends.CheckEnd.{CheckEnd}
use Rattle.suit_check.specs.declared.ends.CheckEnd.TheVariants.{Nodes, Memory}

-- the same cause as that for which there is no tree
abbrev pub same_end : TreeEnd → CheckEnd
same_end (grown.Nodes budget) = Nodes budget
same_end grown.Memory = Memory

-- the question has more pairs of a class history and a class layout than its budget, which is told, or memory was
-- wanted
abbrev pub IsEnd : Question → CheckEnd → Type 0
IsEnd question (Nodes budget) = (budget ≡ question.nodes) × (question.nodes < node_count question)
IsEnd question Memory = ⊤
