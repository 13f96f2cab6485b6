-- Whether moves that are to be added are in a support already, told by the nodes of a tree. What is said of nodes here
-- serves the contracts of private functions alone.
use Rattle.std.specs.Prelude.{ℕ, ◌==◌, ◌&&◌, ◌||◌, Bool, List, [], ◌∷◌, Some, filter, fold, map, if◌then◌else◌}
use Rattle.std.specs.List.{list_any}
use Rattle.suit_classes.specs.declared.class_moves.ClassMove.{ClassMove}
use Rattle.suit_classes.specs.ClassMoves.{ClassHistory, same_class_move}
use Rattle.suit_plans.specs.declared.moves.DeclarerMove.{DeclarerMove}
use Rattle.suit_plans.specs.declared.moves.DefenceMove.{DefenceMove}
use Rattle.suit_plans.specs.Masses.{is_first}
use Rattle.suit_plans.specs.Orders.{same_class_history}
use Rattle.suit_tree.specs.declared.node.Node.{Node}
use Rattle.suit_tree.specs.declared.tree.Tree.{Tree}
use Rattle.suit_tree.specs.Nodes.{children_of, holds_index, move_of}
use Rattle.suit_program.specs.declared.supports.support.Support.{Support as MarkedSupport}
use Rattle.suit_program.specs.Supports.Marks.{defence_mark, named_on}

-- the nodes below the first of some nodes to which a move leads
unfoldable pub children_by : List Node → ClassMove → List Node
children_by [] move = []
children_by (node ∷ nodes) move =
    if same_class_move (move_of node) move then children_of node else children_by nodes move

-- the nodes below a class history that goes on from a node
abbrev pub children_at : Node → ClassHistory → List Node
children_at node history = fold children_by (children_of node) history

-- whether a support has a move of declarer's
abbrev pub has_own : MarkedSupport → Tree → DeclarerMove → Bool
has_own support tree entry =
    (support.all || named_on (Some support.declarers) entry.history entry.mv)
    || is_first (map move_of (children_at tree.root entry.history)) entry.mv

-- whether it has one of the defence's
abbrev pub has_theirs : MarkedSupport → Tree → DefenceMove → Bool
has_theirs support tree entry =
    (support.all || named_on (defence_mark support entry.layout) entry.history entry.mv)
    || is_first (map move_of (filter (holds_index entry.layout) (children_at tree.root entry.history))) entry.mv

-- whether some moves of the defence's have one in the class layout with an index
abbrev pub are_theirs : List DefenceMove → ℕ → ClassHistory → ClassMove → Bool
are_theirs moves index history move =
    list_any (λ (entry : DefenceMove). (entry.layout == index)
    && (same_class_history entry.history history && same_class_move entry.mv move)) moves
