-- The tree of all class histories of a question that are counted, with the class layouts of positive weight that allow
-- each.
use Rattle.std.specs.Prelude.{⊤, ◌≡◌, ℕ, zero, suc, List, [], ◌∷◌, ◌++◌, Some, None, length, filter, get_or}
use Rattle.std.specs.Prelude.{if◌then◌else◌, nat_lt}
use Rattle.std.specs.List.{range_with_len}
use Rattle.suit_cards.specs.Cards.{ClassLayout, Indices}
use Rattle.suit_game.specs.declared.question.Question.{Question}
use Rattle.suit_game.specs.declared.limits.TheConstants.{MOST_MOVES}
use Rattle.suit_classes.specs.declared.class_moves.ClassMove.{ClassMove}
use Rattle.suit_classes.specs.ClassMoves.{ClassHistory}
use Rattle.suit_classes.specs.ClassPlaces.{class_after, class_decided, class_turn, class_payoff}
use Rattle.suit_tree.specs.declared.node.Node.{Node}
use Rattle.suit_tree.specs.declared.tree.Tree.{Tree}
use Rattle.suit_classes.specs.WhatIsAllowed.{allows, every_move}
use Rattle.suit_classes.specs.Classes.{sizes_of}
use Rattle.suit_tree.specs.WhatIsCounted.{node_count}
use Rattle.suit_tree.specs.Nodes.{move_to, turn_at, layouts_at, payoff_at, children_of}
use Rattle.suit_layouts.specs.ClassLayouts.{class_layouts}

-- West's counts in the class layout at an index
abbrev pub counts_at : List (ClassLayout × ℕ) → ℕ → ClassLayout
counts_at layouts index = (get_or layouts index ([], 0)).0

-- the indices of the class layouts, rising
abbrev pub layout_indices : List (ClassLayout × ℕ) → Indices
layout_indices layouts = range_with_len 0 (length layouts)

-- the indices of the class layouts of positive weight that allow a class history, rising
unfoldable pub allowing : Question → ClassHistory → Indices
allowing question history =
    filter (λ index. allows question (counts_at (class_layouts question (sizes_of question)) index) history)
    (layout_indices (class_layouts question (sizes_of question)))

-- the moves by which the tree goes on from a class history: none where it is decided, else in order those with which
-- some
-- class layout of positive weight allows it
unfoldable pub moves_on : Question → ClassHistory → List ClassMove
moves_on question history =
    if class_decided (class_after question history) then []
    else filter (λ move. nat_lt 0 (length (allowing question (history ++ move ∷ [])))) every_move

-- a node says who is on turn after a class history, which class layouts of positive weight allow it, and what the
-- tricks
-- won are worth where it is decided, and 0 elsewhere
pub record StandsAt (question : Question) (history : ClassHistory) (node : Node) : Type 0 where
  pub turn : turn_at node ≡ class_turn (class_after question history)
  pub layouts : layouts_at node ≡ allowing question history
  pub payoff : payoff_at node
      ≡ (if class_decided (class_after question history) then class_payoff (class_after question history) else 0)

-- as many nodes as moves, each in its turn fit for its move
unfoldable pub AllFit : (ClassMove → Node → Type 0) → List ClassMove → List Node → Type 0
AllFit Fits [] [] = ⊤
AllFit Fits [] (node ∷ nodes) = ⊥
AllFit Fits (move ∷ moves) [] = ⊥
AllFit Fits (move ∷ moves) (node ∷ nodes) = Fits move node × AllFit Fits moves nodes

-- a node stands at a class history, and below it, for at most so many moves more, it has a child for each move of
-- moves_on, in order
unfoldable pub IsTreeAt : ℕ → Question → ClassHistory → Node → Type 0
IsTreeAt zero question history node = StandsAt question history node × (children_of node ≡ [])
IsTreeAt (suc more) question history node =
    StandsAt question history node
    × AllFit (λ move child. (move_to child ≡ Some move) × IsTreeAt more question (history ++ move ∷ []) child)
    (moves_on question history) (children_of node)

-- a tree is that of a question: its root stands at the empty history, and no history is longer than MOST_MOVES moves
pub record IsTreeOf (question : Question) (tree : Tree) : Type 0 where
  pub layouts : tree.layouts.items ≡ class_layouts question (sizes_of question)
  pub top : move_to tree.root ≡ None
  pub nodes : IsTreeAt MOST_MOVES question [] tree.root
  pub pairs : tree.pairs ≡ node_count question
