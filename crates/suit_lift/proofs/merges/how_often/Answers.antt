use Rattle.std.proofs.Common.{take, arith}
use Rattle.std.proofs.lemmas.List.{length-take-le}
use Rattle.suit_lists.proofs.Filters.{length_filter-most}
use Rattle.suit_classes.specs.ClassMoves.{merge, same_class_move}
use Rattle.suit_lift.proofs.merges.how_often.Goals as goal

pub overflow_add-count : goal.overflow_add-count
overflow_add-count c =
    omega (
      arith,
      c.loop-mv.invariant,
      length_filter-most (λ other. same_class_move (merge c.args.classes.now other) c.args.class)
          (take c.loop-mv.mv-index c.args.moves.now),
      length-take-le c.loop-mv.mv-index c.args.moves.now,
      c.requires,
    )
