use Rattle.std.proofs.Common.{take, arith, ◌==◌}
use Rattle.std.proofs.lemmas.List.{length-take-le}
use Rattle.suit_lists.proofs.Filters.{length_filter-most}
use Rattle.suit_classes.specs.Classes.{class_of}
use Rattle.suit_lift.proofs.merges.cards_in.Goals as goal

pub overflow_add-count : goal.overflow_add-count
overflow_add-count c =
    omega (
      arith,
      c.loop-rank.invariant,
      length_filter-most (λ card. class_of c.args.classes.now card == c.args.class)
          (take c.loop-rank.rank-index c.args.cards.now),
      length-take-le c.loop-rank.rank-index c.args.cards.now,
      c.requires,
    )
