use Rattle.std.proofs.Common.{◌<◌, ◌∙◌, sym, arith}
use Rattle.suit_game.specs.declared.limits.TheConstants.{HAND_SIZE}
use Rattle.suit_classes.proofs.ClassNumbers.{number_read, class_top-first, class_below-reached}
use Rattle.suit_classes.proofs.classes.Classes.top.Goals as goal

pub returns-then-self-index : goal.returns-then-self-index
returns-then-self-index c =
    let small : c.loop-index.index < HAND_SIZE = omega arith in
    class_top-first c.args.self.now c.args.class c.loop-index.index c.rank_at.result small c.rank_at.ensures.value
    (sym (number_read c.self.inside.numbers _ c.args.self.now c.loop-index.index c.self.invariant c.self.view_is small)
    ∙ c.if-self-index.true)
    (λ k low same. c.loop-index.invariant k low
    (number_read c.self.inside.numbers _ c.args.self.now k c.self.invariant c.self.view_is (omega arith) ∙ same))

pub unreachable-requires : goal.unreachable-requires
unreachable-requires c =
    let place = class_below-reached c.args.self.now 12 c.args.class (omega (arith, c.requires)) in
    c.loop-index.invariant place.0 (omega (arith, place.1))
    (number_read c.self.inside.numbers _ c.args.self.now place.0 c.self.invariant c.self.view_is (omega (
      arith,
      place.1,
    )) ∙ place.2)
