-- The first of some nodes.
use Rattle.std.specs.Prelude.{Bool, List, map}
use Rattle.suit_classes.specs.declared.class_moves.ClassMove.{ClassMove}
use Rattle.suit_plans.specs.Masses.{is_first}
use Rattle.suit_tree.specs.declared.node.Node.{Node}
use Rattle.suit_tree.specs.Nodes.{move_of}

-- whether a move leads to the first of some nodes
abbrev pub is_first_of : List Node → ClassMove → Bool
is_first_of nodes move = is_first (map move_of nodes) move
