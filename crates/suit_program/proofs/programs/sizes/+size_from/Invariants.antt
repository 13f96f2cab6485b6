use Rattle.std.proofs.Common.{◌≡◌, ◌+◌, ◌-◌, ◌^◌, take}
use Rattle.std.specs.Prelude.{min, sum_by}
use Rattle.suit_game.specs.declared.question.Question.{Question}
use Rattle.suit_classes.specs.ClassMoves.{ClassHistory}
use Rattle.suit_tree.specs.Nodes.{children_of}
use Rattle.suit_program.specs.Walks.Reaches.{IsReach}
use Rattle.suit_program.specs.Walks.SupportSizes.{size_at}
use Rattle.suit_program.specs.Supports.{Support}
use Rattle.suit_program.proofs.lemmas.Walks.SizeFromHere.{child_size}
use Rattle.suit_program.proofs.programs.sizes.+size_from.Given as goal

abbrev pub decreases-size_from : goal.decreases-size_from
decreases-size_from l = l.more

abbrev pub invariant-loop-child : goal.invariant-loop-child
invariant-loop-child l =
    (question : Question) (support : Support) (history : ClassHistory)
    → (is : IsReach question support history l.reach)
    → l.size ≡ min (l.before + (size_at question support history
    + sum_by (child_size question support history l.reach is) (take l.child-index (children_of l.reach.node))))
    (2 ^ 32 - 1)
