use Rattle.std.proofs.Common.{arith}
use Rattle.suit_classes.proofs.ClassNumbers.{number_read, class_below-most}
use Rattle.suit_classes.proofs.classes.Classes.count.Goals as goal

pub overflow_add-result : goal.overflow_add-result
overflow_add-result c =
    omega (
      arith,
      number_read c.self.inside.numbers _ c.args.self.now 12 c.self.invariant c.self.view_is (omega arith),
      class_below-most c.args.self.now 12,
    )

pub returns-clause-value : goal.returns-clause-value
returns-clause-value c =
    omega (arith, number_read c.self.inside.numbers _ c.args.self.now 12 c.self.invariant c.self.view_is (omega arith))

pub returns-clause-most : goal.returns-clause-most
returns-clause-most c =
    omega (
      arith,
      number_read c.self.inside.numbers _ c.args.self.now 12 c.self.invariant c.self.view_is (omega arith),
      class_below-most c.args.self.now 12,
    )
