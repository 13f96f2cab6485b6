-- An equal telling of the tree by positions alone, whatever came before, for the contracts of private functions; the
-- lemma
-- that ties it to the tree of a question is grown_is_tree of proofs/GrownTrees.
use Rattle.std.specs.Prelude.{◌≡◌, ◌≤◌, ◌<◌, ◌+◌, ℕ, zero, suc, Bool, true, false, List, [], ◌∷◌, Some, length, get_or}
use Rattle.std.specs.Prelude.{map, filter, ◌++◌, sum_by, if◌then◌else◌, nat_lt}
use Rattle.suit_cards.specs.Cards.{ClassLayout, Indices}
use Rattle.suit_game.specs.declared.question.Question.{Question}
use Rattle.suit_game.specs.declared.limits.TheConstants.{MOST_MOVES}
use Rattle.suit_classes.specs.declared.class_moves.ClassMove.{ClassMove}
use Rattle.suit_classes.specs.declared.class_moves.ClassMove.TheVariants.{Lead, Follow, ShowOut}
use Rattle.suit_classes.specs.declared.class_turn.ClassTurn.{ClassTurn}
use Rattle.suit_classes.specs.declared.class_turn.ClassTurn.TheVariants as turns
use Rattle.suit_classes.specs.WhatIsAllowed.{is_among, every_move}
use Rattle.suit_classes.specs.ClassMoves.{ClassHistory}
use Rattle.suit_classes.specs.declared.class_view.ClassView.{ClassView}
use Rattle.suit_classes.specs.ClassPlaces.{class_after, class_decided, class_moves, class_numbers, class_payoff}
use Rattle.suit_classes.specs.ClassPlaces.{class_step, class_turn}
use Rattle.suit_tree.specs.declared.branch.Branch.{Branch}
use Rattle.suit_tree.specs.declared.node.Node.{Node}
use Rattle.suit_tree.specs.declared.offers.Offers.{Offers}
use Rattle.suit_tree.specs.Nodes.{move_to, turn_at, layouts_at, payoff_at, children_of}
use Rattle.suit_tree.specs.Trees.{AllFit, counts_at}
use Rattle.suit_classes.specs.declared.classes.TheConstants.{MOST_CLASSES}

-- the position after a list of class moves that, with so many more, has at most MOST_MOVES
pub record HasRoom (more : ℕ) (view : ClassView) : Type 0 where
  pub question : Question
  pub history : ClassHistory
  pub short : length history + more ≤ MOST_MOVES
  pub after : view ≡ class_after question history

-- of some indices of class layouts, those at which a move may be made
unfoldable pub keeping : List (ClassLayout × ℕ) → ClassView → Indices → ClassMove → Indices
keeping layouts view indices move = filter (λ index. is_among (class_moves view (counts_at layouts index)) move) indices

-- the moves which may be made at some of them, in order, and none where the position is decided
unfoldable pub moves_from : List (ClassLayout × ℕ) → ClassView → Indices → List ClassMove
moves_from layouts view indices =
    if class_decided view then [] else filter (λ move. nat_lt 0 (length (keeping layouts view indices move))) every_move

-- the same, where at most so many moves more may come
unfoldable pub moves_within : ℕ → List (ClassLayout × ℕ) → ClassView → Indices → List ClassMove
moves_within zero layouts view indices = []
moves_within (suc more) layouts view indices = moves_from layouts view indices

-- a node says who is on turn at a position, holds these indices, and says what the tricks won are worth where it is
-- decided,
-- and 0 elsewhere
pub record StandsFor (view : ClassView) (indices : Indices) (node : Node) : Type 0 where
  pub turn : turn_at node ≡ class_turn view
  pub layouts : layouts_at node ≡ indices
  pub payoff : payoff_at node ≡ (if class_decided view then class_payoff view else 0)

-- a node with all below it, cut off after so many moves
unfoldable pub IsGrown : ℕ → List (ClassLayout × ℕ) → ClassView → Indices → Node → Type 0
IsGrown zero layouts view indices node = StandsFor view indices node × (children_of node ≡ [])
IsGrown (suc more) layouts view indices node =
    StandsFor view indices node
    × AllFit (λ move child. (move_to child ≡ Some move)
    × IsGrown more layouts (class_step view move) (keeping layouts view indices move) child)
    (moves_from layouts view indices) (children_of node)

-- how many pairs of a node and an index that it holds there are, cut off after so many moves
unfoldable pub pairs_from : ℕ → List (ClassLayout × ℕ) → ClassView → Indices → ℕ
pairs_from zero layouts view indices = length indices
pairs_from (suc more) layouts view indices =
    length indices
    + sum_by (λ move. pairs_from more layouts (class_step view move) (keeping layouts view indices move))
    (moves_from layouts view indices)

-- ---- the moves by which a position goes on

-- whether it is a defender's turn
abbrev pub is_theirs : ClassTurn → Bool
is_theirs (turns.Defence seat) = true
is_theirs turns.Lead = false
is_theirs (turns.Declarer seat) = false
is_theirs turns.Decided = false

-- what a branch says: a move, and the indices at which it may be made
abbrev pub branch_seen : Branch → ClassMove × Indices
branch_seen branch = (branch.mv, branch.indices.now)

-- the branches of a position, seen so
abbrev pub branched : ℕ → List (ClassLayout × ℕ) → ClassView → Indices → List (ClassMove × Indices)
branched more layouts view indices =
    map (λ move. (move, keeping layouts view indices move)) (moves_within more layouts view indices)

-- the moves of a defender, in their order
unfoldable pub their_moves : List ClassMove
their_moves = map Follow class_numbers ++ ShowOut ∷ []

-- whether offers have a move
abbrev pub is_offered : Offers → ClassMove → Bool
is_offered offers (Follow class) = get_or offers.follows class false
is_offered offers ShowOut = offers.shows_out
is_offered offers (Lead seat class) = false

-- offers tell which follows, and whether showing out, are among some moves
pub record Tells (offers : Offers) (moves : List ClassMove) : Type 0 where
  pub follows : (class : ℕ) → class < MOST_CLASSES → get_or offers.follows class false ≡ is_among moves (Follow class)
  pub shows_out : offers.shows_out ≡ is_among moves ShowOut

-- of some indices, each with offers, those whose offers have a move
unfoldable pub kept_of : Indices → List Offers → ClassMove → Indices
kept_of [] offers move = []
kept_of (index ∷ indices) [] move = []
kept_of (index ∷ indices) (offers ∷ others) move =
    if is_offered offers move then index ∷ kept_of indices others move else kept_of indices others move
