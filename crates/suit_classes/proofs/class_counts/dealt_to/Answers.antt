use Rattle.std.proofs.Common.{◌≡◌, ◌∙◌, ap, sym, arith}
use Rattle.std.specs.Prelude.{if◌then◌else◌, Bool}
use Rattle.suit_classes.specs.declared.classes.Owner.{Owner}
use Rattle.suit_classes.specs.Classes.{class_owner, class_size, same_owner}
use Rattle.suit_classes.specs.ClassPlaces.{held_by}
use Rattle.suit_classes.proofs.CountedClassByClass.{filled_none, filled_next, filled_kept, filled_dealt}
use Rattle.suit_classes.proofs.class_counts.dealt_to.Goals as goal
use Rattle.suit_classes.proofs.class_counts.dealt_to.Goals.{then-is, else-is}

pub loop-class-init : goal.loop-class-init
loop-class-init c = filled_none (held_by c.args.classes.now c.args.owner)

pub loop-class-preserved : goal.loop-class-preserved
loop-class-preserved c =
    let told : c.is.result ≡ same_owner (class_owner c.args.classes.now c.loop-class.class) c.args.owner =
    c.is.ensures ∙ ap (λ (owner : Owner). same_owner owner c.args.owner) c.owner.ensures in
    elim c.if-is.branch [
      | then-is w ↦
          filled_next
          (held_by c.args.classes.now c.args.owner) c.loop-class.dealt c.loop-class.class c.if-is.dealt w.size.result
          (omega (arith, c.count-class-end.ensures.most)) c.loop-class.invariant w.dealt-is
          (w.size.ensures.value ∙ ap (λ (b : Bool). if b then class_size c.args.classes.now c.loop-class.class
          else 0) (sym w.if-is.true ∙ told))
      | else-is w ↦
          filled_kept
          (held_by c.args.classes.now c.args.owner) c.loop-class.dealt c.loop-class.class c.if-is.dealt
          c.loop-class.invariant w.dealt-is
          (ap (λ (b : Bool). if b then class_size c.args.classes.now c.loop-class.class else 0) (sym told
          ∙ w.if-is.false))
    ]

pub returns : goal.returns
returns c =
    filled_dealt c.args.classes.now c.args.owner c.loop-class.dealt c.loop-class.class
    (omega (arith, c.count-class-end.ensures.value)) c.loop-class.invariant
