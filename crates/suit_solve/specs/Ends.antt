-- Why a question has no answer where it has no tree.
use Rattle.suit_tree.specs.declared.tree_end.TreeEnd.{TreeEnd}
use Rattle.suit_tree.specs.declared.tree_end.TreeEnd.TheVariants as grown
use Rattle.suit_solve.specs.declared.ends.SolveEnd.{SolveEnd}
use Rattle.suit_solve.specs.declared.ends.SolveEnd.TheVariants.{Memory, Nodes}

-- the same cause
abbrev pub same_end : TreeEnd → SolveEnd
same_end (grown.Nodes budget) = Nodes budget
same_end grown.Memory = Memory
