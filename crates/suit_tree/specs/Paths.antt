-- The class histories that are counted, and the nodes at the paths that they are below a node.
use Rattle.std.specs.Prelude.{◌≡◌, Bool, false, List, [], ◌∷◌, ◌++◌, Option, Some, None, filter}
use Rattle.std.specs.List.{flat_map}
use Rattle.suit_cards.specs.Cards.{ClassLayout}
use Rattle.suit_game.specs.declared.question.Question.{Question}
use Rattle.suit_classes.specs.declared.class_moves.ClassMove.{ClassMove}
use Rattle.suit_classes.specs.ClassGame.{Allows}
use Rattle.suit_classes.specs.ClassMoves.{ClassHistory, same_class_move}
use Rattle.suit_classes.specs.ClassPlaces.{class_after, class_decided}
use Rattle.suit_tree.specs.declared.node.Node.{Node}
use Rattle.suit_tree.specs.Nodes.{move_to, children_of}

-- a history that counts allow and that goes past no decided position
pub record IsCounted (question : Question) (counts : ClassLayout) (history : ClassHistory) : Type 0 where
  pub allowed : Allows question counts history
  pub undecided : (start rest : ClassHistory) → history ≡ start ++ rest → (rest ≡ [] → ⊥)
      → class_decided (class_after question start) ≡ false

-- whether this move leads somewhere
abbrev pub is_by : ClassMove → Option ClassMove → Bool
is_by move None = false
is_by move (Some other) = same_class_move move other

-- of some nodes, those to which a move leads
abbrev pub nodes_by : ClassMove → List Node → List Node
nodes_by move nodes = filter (λ node. is_by move (move_to node)) nodes

-- the nodes at a path below a node
unfoldable pub nodes_at : ClassHistory → Node → List Node
nodes_at [] node = node ∷ []
nodes_at (move ∷ moves) node = flat_map (nodes_at moves) (nodes_by move (children_of node))
