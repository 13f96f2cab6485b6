-- What a node holds.
use Rattle.std.specs.Prelude.{ℕ, ◌==◌, Bool, List, Option, unwrap_or}
use Rattle.std.specs.List.{list_any}
use Rattle.suit_cards.specs.Cards.{Indices}
use Rattle.suit_classes.specs.declared.class_moves.ClassMove.{ClassMove}
use Rattle.suit_classes.specs.declared.class_moves.ClassMove.TheVariants.{ShowOut}
use Rattle.suit_classes.specs.declared.class_turn.ClassTurn.{ClassTurn}
use Rattle.suit_tree.specs.declared.node.Node.{Node, out-Node}

-- the last move of its history, none at the root
abbrev pub move_to : Node → Option ClassMove
move_to node = (out-Node node).by

-- the move that leads to it, and showing out at the root
abbrev pub move_of : Node → ClassMove
move_of node = unwrap_or (move_to node) ShowOut

-- who is on turn
abbrev pub turn_at : Node → ClassTurn
turn_at node = (out-Node node).turn

-- the indices, in the tree's list, of the class layouts that allow the node's history, rising
abbrev pub layouts_at : Node → Indices
layouts_at node = (out-Node node).layouts.now

-- what the tricks won are worth where it is decided, and 0 elsewhere
abbrev pub payoff_at : Node → ℕ
payoff_at node = (out-Node node).payoff

-- the nodes below
abbrev pub children_of : Node → List Node
children_of node = (out-Node node).children.now

-- whether an index is one of some
abbrev pub is_held : ℕ → Indices → Bool
is_held index indices = list_any (λ other. other == index) indices

-- whether a node holds the class layout at an index
abbrev pub holds_index : ℕ → Node → Bool
holds_index index node = is_held index (layouts_at node)
