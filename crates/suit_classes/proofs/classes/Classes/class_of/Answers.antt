use Rattle.std.proofs.Common.{◌-◌, ◌∙◌, ap, ℕ, arith}
use Rattle.suit_classes.specs.Classes.{class_of}
use Rattle.suit_classes.proofs.ClassNumbers.{number_read, class_of-below}
use Rattle.suit_classes.proofs.classes.Classes.class_of.Goals as goal

pub returns-clause-value : goal.returns-clause-value
returns-clause-value c =
    number_read c.self.inside.numbers _ c.args.self.now (14 - c.number.result) c.self.invariant c.self.view_is
    (omega (arith, c.number.ensures.value, c.number.ensures.rank))
    ∙ ap (λ (rank : ℕ). class_of c.args.self.now rank) c.number.ensures.value

pub returns-clause-below : goal.returns-clause-below
returns-clause-below c =
    omega (arith, returns-clause-value c, class_of-below c.args.self.now c.args.rank c.number.ensures.rank)
