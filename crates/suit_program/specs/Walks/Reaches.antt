-- What a walk over the tree holds at a class history that play with the moves of a support reaches.
use Rattle.std.specs.Prelude.{◌≡◌, ℕ, ◌-◌, ◌<◌, ◌&&◌, ◌||◌, Bool, List, ◌++◌, Option, Contains}
use Rattle.std.specs.Prelude.{length, map, filter, if◌then◌else◌}
use Rattle.std.specs.Option.{option_copied}
use Rattle.suit_cards.specs.Cards.{Indices}
use Rattle.suit_game.specs.declared.question.Question.{Question}
use Rattle.suit_game.specs.declared.limits.TheConstants.{MOST_MOVES}
use Rattle.suit_game.specs.Validity.{IsValid}
use Rattle.suit_classes.specs.declared.class_moves.ClassMove.{ClassMove}
use Rattle.suit_classes.specs.WhatIsAllowed.{is_among}
use Rattle.suit_classes.specs.ClassMoves.{ClassHistory}
use Rattle.suit_plans.specs.Masses.{is_declarers, is_first}
use Rattle.suit_plans.specs.ReplyLaws.{counts_at}
use Rattle.suit_tree.specs.declared.node.Node.{Node}
use Rattle.suit_tree.specs.Nodes.{children_of, holds_index, move_of, turn_at}
use Rattle.suit_tree.specs.Trees.{IsTreeAt, layout_indices}
use Rattle.suit_program.specs.declared.walks.reach.Reach.{Reach}
use Rattle.suit_program.specs.declared.walks.reach.ReachedLayout.{ReachedLayout}
use Rattle.suit_program.specs.declared.supports.mark.Mark.{Mark}
use Rattle.suit_program.specs.Supports.Marks.{mark_after, named_on, names_here}
use Rattle.suit_program.specs.Supports.{Support, is_reached, layouts_of, next_moves}

-- the indices of the class layouts in which a class history is reached, rising
unfoldable pub reached_indices : Question → Support → ClassHistory → Indices
reached_indices question support history =
    filter (λ index. is_reached question support (counts_at question index) history)
    (layout_indices (layouts_of question))

-- what a walk holds at a reached class history: the node there, the class layouts in which it is reached, and what the
-- support names from it on, of declarer's moves and of the defence's in each of these class layouts
pub record IsReach (question : Question) (support : Support) (history : ClassHistory) (reach : Reach) : Type 0 where
  pub valid : IsValid question
  pub tree : IsTreeAt (MOST_MOVES - length history) question history reach.node
  pub some : 0 < length (reached_indices question support history)
  pub layouts : map (λ layout. layout.index) reach.layouts.items ≡ reached_indices question support history
  pub own : (moves : ClassHistory) (move : ClassMove)
      → support.declarers (history ++ moves) move ≡ (reach.all || named_on (option_copied reach.own) moves move)
  pub theirs : (layout : ReachedLayout) → Contains reach.layouts.items layout
      → (moves : ClassHistory) (move : ClassMove)
      → support.defences (counts_at question layout.index) (history ++ moves) move
      ≡ (reach.all || named_on (option_copied layout.named) moves move)

-- a walk stands at a reached class history of some question
pub record IsSomeReach (reach : Reach) : Type 0 where
  pub question : Question
  pub support : Support
  pub history : ClassHistory
  pub reached : IsReach question support history reach

-- what a reach says is true of each question, support and class history that it is at
abbrev pub Reached : Reach → (Question → Support → ClassHistory → Type 0) → Type 0
Reached reach Fits = (question : Question) (support : Support) (history : ClassHistory)
    → IsReach question support history reach → Fits question support history

-- whether play with the moves of a support goes on to a node below
abbrev pub goes_on : Question → Support → ClassHistory → Node → Bool
goes_on question support history child = is_among (next_moves question support history) (move_of child)

-- ---- what private functions tell of a walk

-- whether a walk names a move of declarer's
abbrev pub own_named : Reach → ClassMove → Bool
own_named reach move = reach.all || names_here (option_copied reach.own) move

-- whether a move of declarer's is the first one, or is named
abbrev pub own_has : Reach → ClassMove → Bool
own_has reach move = own_named reach move || is_first (map move_of (children_of reach.node)) move

-- whether a walk names a move of the defence's in a class layout
abbrev pub their_named : Reach → ReachedLayout → ClassMove → Bool
their_named reach layout move = reach.all || names_here (option_copied layout.named) move

-- the nodes below to which a class layout may go
abbrev pub nodes_in : Reach → ℕ → List Node
nodes_in reach index = filter (holds_index index) (children_of reach.node)

-- whether a class layout may go to a node below, by the first move or one that is named
abbrev pub their_has : Reach → ReachedLayout → Node → Bool
their_has reach layout child = holds_index layout.index child
    && (their_named reach layout (move_of child) || is_first (map move_of (nodes_in reach layout.index))
    (move_of child))

-- whether play goes on to a node below in a class layout
abbrev pub goes_in : Reach → ReachedLayout → Node → Bool
goes_in reach layout child =
    if is_declarers (turn_at reach.node) then own_has reach (move_of child) else their_has reach layout child

-- the index of a class layout, and what is named in it
abbrev pub layout_seen : ReachedLayout → ℕ × Option Mark
layout_seen layout = (layout.index, option_copied layout.named)

-- the same after one more move
abbrev pub layout_after : ClassMove → ReachedLayout → ℕ × Option Mark
layout_after move layout = (layout.index, mark_after (option_copied layout.named) move)

-- those in which play goes on to a node below, after the move to it
abbrev pub layouts_after : Reach → Node → List (ℕ × Option Mark)
layouts_after reach child =
    map (layout_after (move_of child)) (filter (λ layout. goes_in reach layout child) reach.layouts.items)
