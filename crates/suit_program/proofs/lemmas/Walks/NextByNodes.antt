-- The moves with which play goes on are those of the nodes below to which it does (`next_told`).
use Rattle.std.proofs.Common.{◌≡◌, map, sym}
use Rattle.std.specs.Prelude.{filter}
use Rattle.suit_game.specs.declared.question.Question.{Question}
use Rattle.suit_classes.specs.ClassMoves.{ClassHistory}
use Rattle.suit_tree.specs.Nodes.{children_of, move_of}
use Rattle.suit_program.specs.declared.walks.reach.Reach.{Reach}
use Rattle.suit_program.specs.Walks.Reaches.{IsReach, goes_on}
use Rattle.suit_program.specs.Supports.{Support, next_moves}
use Rattle.suit_program.proofs.lemmas.Walks.ReachTells.{next_below}

pub next_told : (question : Question) (support : Support) (history : ClassHistory) (reach : Reach)
    → IsReach question support history reach
    → map move_of (filter (goes_on question support history) (children_of reach.node))
    ≡ next_moves question support history
next_told question support history reach is = sym (next_below question support history reach is)
