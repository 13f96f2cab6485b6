use Rattle.std.proofs.Common.{◌≡◌, ◌-◌, ◌+◌, ◌∙◌, ap, sym, refl, arith}
use Rattle.std.specs.Prelude.{if◌then◌else◌}
use Rattle.std.proofs.Math.ListN.{length-set}
use Rattle.std.proofs.lemmas.List.Edits.{fill_by_more}
use Rattle.suit_classes.specs.Classes.{class_below, hands_of}
use Rattle.suit_classes.proofs.ClassNumbers.{class_below-most, class_below-ace, class_below-later, numbers_of-filled}
use Rattle.suit_classes.proofs.classes.Classes.of.Goals as goal
use Rattle.suit_classes.proofs.classes.Classes.of.Goals.{then-starts_class, else-starts_class}

pub overflow_add-class : goal.overflow_add-class
overflow_add-class c =
    omega
    (arith, c.loop-index.invariant.class, class_below-most (hands_of c.args.question.now) (c.loop-index.index - 1))

pub loop-index-init : goal.loop-index-init
loop-index-init c = record {
  long = refl;
  numbered =
      λ k low. let first : k ≡ 0 = omega arith in rw first (sym (class_below-ace (hands_of c.args.question.now)));
  class = sym (class_below-ace (hands_of c.args.question.now));
}

pub loop-index-preserved : goal.loop-index-preserved
loop-index-preserved c =
    let chosen : c.if-starts_class.class ≡ (if c.starts_class.result then c.loop-index.class + 1
    else c.loop-index.class) =
    elim c.if-starts_class.branch [
      | then-starts_class w ↦ rw w.if-starts_class.true w.class-is
      | else-starts_class w ↦ rw w.if-starts_class.false
          w.class-is
    ] in
    let here : c.if-starts_class.class ≡ class_below (hands_of c.args.question.now) c.loop-index.index =
    class_below-later (hands_of c.args.question.now)
    (c.loop-index.index - 1) c.loop-index.index c.loop-index.class c.if-starts_class.class c.starts_class.result
    (omega arith) c.loop-index.invariant.class
    (c.starts_class.ensures (hands_of c.args.question.now) (c.loop-index.index - 1) refl refl (omega arith)) chosen in
    record {
      long = length-set c.loop-index.numbers c.loop-index.index c.if-starts_class.class ∙ c.loop-index.invariant.long;
      numbered = λ k low. rw here
          (fill_by_more (class_below (hands_of c.args.question.now)) c.loop-index.numbers c.loop-index.index 0
          (omega (arith, c.loop-index.invariant.long))
          c.loop-index.invariant.numbered k low);
      class = here ∙ ap (class_below (hands_of c.args.question.now)) (omega arith);
    }

pub invariant_of-result : goal.invariant_of-result
invariant_of-result c =
    numbers_of-filled (hands_of c.args.question.now) c.loop-index.numbers c.loop-index.invariant.long
    (λ place small. c.loop-index.invariant.numbered place (omega arith))
