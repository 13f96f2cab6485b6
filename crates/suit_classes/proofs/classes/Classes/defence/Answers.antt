use Rattle.std.proofs.Common.{◌≡◌, ◌∙◌, ℕ, ap, sym, true, length, arith}
use Rattle.std.specs.Prelude.{filter}
use Rattle.std.specs.List.{range_with_len, flat_map}
use Rattle.suit_classes.specs.declared.classes.Owner.{Owner}
use Rattle.suit_classes.specs.declared.classes.Owner.TheVariants.{Defence}
use Rattle.suit_classes.specs.Classes.{class_count, class_owner, class_ranks, same_owner}
use Rattle.suit_classes.proofs.DefenceClasses.{defence_classes-room, filter_range-next}
use Rattle.suit_classes.proofs.RankBlocks.{missing_in_blocks}
use Rattle.suit_classes.proofs.classes.Classes.defence.Goals as goal
use Rattle.suit_classes.proofs.classes.Classes.defence.Goals.{then-is, else-is}

pub push-requires : goal.push-requires
push-requires c =
    let is : same_owner (class_owner c.args.self.now c.loop-class.class) Defence ≡ true =
    ap (λ (owner : Owner). same_owner owner Defence) (sym c.owner.ensures) ∙ sym c.is.ensures ∙ c.if-is.true in
    let room =
    defence_classes-room c.args.self.now c.loop-class.class (omega (arith, c.count-class-end.ensures.value)) is in
    (omega arith, omega (arith, room, ap length c.loop-class.invariant))

pub loop-class-preserved : goal.loop-class-preserved
loop-class-preserved c =
    filter_range-next
    (λ class. same_owner (class_owner c.args.self.now class) Defence) c.loop-class.class c.is.result
    c.loop-class.classes.items c.if-is.classes.items
    c.loop-class.invariant (c.is.ensures ∙ ap (λ (owner : Owner). same_owner owner Defence) c.owner.ensures)
    (elim c.if-is.branch [
      | then-is w ↦ rw w.if-is.true (ap (λ v. v.items) w.classes-is ∙ w.push.ensures.items)
      | else-is w ↦ rw w.if-is.false (ap (λ v. v.items) w.classes-is)
    ])

pub returns-clause-value : goal.returns-clause-value
returns-clause-value c =
    let all : c.loop-class.class ≡ class_count c.args.self.now = omega (arith, c.count-class-end.ensures.value) in
    c.loop-class.invariant
    ∙ ap (λ (n : ℕ). filter (λ class. same_owner (class_owner c.args.self.now class) Defence) (range_with_len 0 n)) all

pub returns-clause-blocks : goal.returns-clause-blocks
returns-clause-blocks c =
    ap (flat_map (class_ranks c.args.self.now)) (returns-clause-value c) ∙ missing_in_blocks c.args.self.now
