-- What holds of the counted class histories and the tree of every question.
use Rattle.std.specs.Prelude.{◌≡◌, ◌≢◌, ℕ, ◌<◌, ◌↔◌, true, false, List, [], ◌∷◌, Some, length, map, filter, AllPairs}
use Rattle.std.specs.Prelude.{Contains}
use Rattle.suit_cards.specs.Cards.{Cards, ClassLayout}
use Rattle.suit_game.specs.declared.question.Question.{Question}
use Rattle.suit_game.specs.Histories.{History}
use Rattle.suit_game.specs.PlaceViews.{IsPlay}
use Rattle.suit_game.specs.Positions.{after, payoff}
use Rattle.suit_game.specs.Validity.{IsValid}
use Rattle.suit_game.specs.declared.limits.TheConstants.{MOST_MOVES}
use Rattle.suit_classes.specs.ClassMoves.{ClassHistory, merged}
use Rattle.suit_classes.specs.MoveOrder.{stands_before}
use Rattle.suit_classes.specs.declared.class_moves.ClassMove.{ClassMove}
use Rattle.suit_classes.specs.ClassGame.{Allows, class_turn_at, counts_of, is_decided, merged_moves}
use Rattle.suit_tree.specs.declared.node.Node.{Node}
use Rattle.suit_classes.specs.WhatIsAllowed.{allows}
use Rattle.suit_classes.specs.Classes.{hands_of, sizes_of}
use Rattle.suit_tree.specs.WhatIsCounted.{counted_histories}
use Rattle.suit_tree.specs.Nodes.{children_of, holds_index, move_to, payoff_at, turn_at}
use Rattle.suit_tree.specs.Paths.{IsCounted, nodes_at}
use Rattle.suit_tree.specs.Trees.{IsTreeAt, StandsAt, allowing, counts_at}
use Rattle.suit_layouts.specs.ClassLayouts.{class_layouts}

-- West's counts in the class layouts of positive weight
abbrev pub listed_counts : Question → List ClassLayout
listed_counts question = map (λ (layout : ClassLayout × ℕ). layout.0) (class_layouts question (sizes_of question))

-- they are told to allow the class histories that they allow
abbrev pub AllowsIsAllowed : Type 0
AllowsIsAllowed = (question : Question) (counts : ClassLayout) (history : ClassHistory) → IsValid question
    → Contains (listed_counts question) counts
    → (allows question counts history ≡ true) ↔ Allows question counts history

-- exactly the histories that they allow and that go past no decided position are counted for them
abbrev pub CountedExactly : Type 0
CountedExactly = (question : Question) (counts : ClassLayout) (history : ClassHistory) → IsValid question
    → Contains (listed_counts question) counts
    → Contains (counted_histories question counts) history ↔ IsCounted question counts history

-- each once
abbrev pub CountedOnce : Type 0
CountedOnce = (question : Question) (counts : ClassLayout)
    → AllPairs (λ here there. here ≢ there) (counted_histories question counts)

-- the indices that go with a history, which a node at it holds, are those of exactly the class layouts that allow it
abbrev pub KeptLayouts : Type 0
KeptLayouts = (question : Question) (history : ClassHistory) (index : ℕ) → IsValid question
    → Contains (allowing question history) index
    ↔ ((index < length (class_layouts question (sizes_of question)))
    × Allows question (counts_at (class_layouts question (sizes_of question)) index) history)

-- at the path of each history that is counted for some class layout stands one node
abbrev pub OneNodeAtEachPath : Type 0
OneNodeAtEachPath = (question : Question) (counts : ClassLayout) (history : ClassHistory) (root : Node)
    → IsValid question
    → Contains (listed_counts question) counts
    → IsCounted question counts history → IsTreeAt MOST_MOVES question [] root → (node : Node)
    × (nodes_at history root ≡ node ∷ []) × StandsAt question history node

-- and at no other path any
abbrev pub NoOtherNode : Type 0
NoOtherNode = (question : Question) (history : ClassHistory) (root : Node) → IsValid question
    → ((counts : ClassLayout) → Contains (listed_counts question) counts → IsCounted question counts history → ⊥)
    → IsTreeAt MOST_MOVES question [] root → nodes_at history root ≡ []

-- what a node says of the play of single cards: of a legal history under a layout that merges to the node's path
pub record TellsPlay (question : Question) (west : Cards) (history : History) (node : Node) : Type 0 where
  pub turn : turn_at node ≡ class_turn_at question (after question history)
  pub payoff : is_decided question (after question history) ≡ true
      → payoff_at node ≡ payoff question.goal (after question history).won
  -- to the nodes below that hold the class layout of this layout lead the merges of its legal moves, in their order,
  -- each once
  pub moves : is_decided question (after question history) ≡ false
      → (index : ℕ) → index < length (class_layouts question (sizes_of question))
      → counts_at (class_layouts question (sizes_of question)) index ≡ counts_of (hands_of question) west
      → map move_to (filter (holds_index index) (children_of node)) ≡ map Some (merged_moves question west history)

-- each node says so, for who will not read how positions are counted
abbrev pub NodesTellPlay : Type 0
NodesTellPlay = (question : Question) (west : Cards) (history : History) (root node : Node)
    → IsPlay question west history
    → IsTreeAt MOST_MOVES question [] root → Contains (nodes_at (merged (hands_of question) history) root) node
    → TellsPlay question west history node

-- the moves to the nodes below a node, by which they rise in the order of class moves
pub record Rise (nodes : List Node) : Type 0 where
  pub moves : List ClassMove
  pub lead : map move_to nodes ≡ map Some moves
  pub order : AllPairs (λ here there. stands_before here there ≡ true) moves

abbrev pub ChildrenRise : Type 0
ChildrenRise = (question : Question) (path : ClassHistory) (root node : Node)
    → IsTreeAt MOST_MOVES question [] root → Contains (nodes_at path root) node → Rise (children_of node)
