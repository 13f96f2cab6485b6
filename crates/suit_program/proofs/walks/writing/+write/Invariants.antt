use Rattle.std.proofs.Common.{◌≡◌, length, map, take}
use Rattle.std.specs.Prelude.{filter}
use Rattle.suit_tree.specs.Nodes.{children_of, move_of}
use Rattle.suit_program.specs.Walks.Reaches.{goes_on}
use Rattle.suit_program.specs.Walks.Writing.{IsAsked, IsOpened}
use Rattle.suit_program.proofs.lemmas.Walks.WritingGoesOn.{ArePassed}
use Rattle.suit_program.proofs.walks.writing.+write.Given as goal

abbrev pub decreases-write : goal.decreases-write
decreases-write l = l.more

abbrev pub invariant-loop-child : goal.invariant-loop-child
invariant-loop-child l = (case : IsAsked l.fn.ledger l.reach l.accounts)
    → IsOpened case.question case.support case.history l.mass l.accounts l.fn.ledger l.initial.ledger l.turn
    × ArePassed case.question case.support case.history l.mass l.accounts l.turn l.initial.ledger l.ledger
    (map move_of (filter (goes_on case.question case.support case.history)
    (take l.child-index (children_of l.reach.node))))
    × (l.passed ≡ length (map move_of (filter (goes_on case.question case.support case.history)
    (take l.child-index (children_of l.reach.node)))))
