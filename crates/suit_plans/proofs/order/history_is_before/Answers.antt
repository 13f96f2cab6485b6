use Rattle.std.proofs.Common.{◌∙◌}
use Rattle.suit_classes.specs.contracts.class_moves.ClassMovePartialOrd.TheImpl as order
use Rattle.suit_classes.specs.ClassMoves.{same_class_move}
use Rattle.suit_classes.specs.MoveOrder.{stands_before}
use Rattle.suit_classes.proofs.OrderIsAsDefined.{cmp_stands}
use Rattle.suit_plans.proofs.LibraryOrder.{cmp_earlier}
use Rattle.suit_plans.proofs.order.history_is_before.Goals as goal

pub returns : goal.returns
returns c = c.lt.ensures ∙ cmp_earlier order.ghosts.partial_cmp stands_before same_class_move cmp_stands c.args.here.now
    c.args.there.now
