use Rattle.std.proofs.Common.{◌≡◌, ◌∙◌, ◌+◌, ◌++◌, ℕ, List, true, false, ap, length, arith}
use Rattle.std.specs.Prelude.{map, filter, nat_lt, slice_index}
use Rattle.std.specs.List.{range_with_len}
use Rattle.std.proofs.lemmas.List.{length-append}
use Rattle.suit_classes.specs.declared.class_moves.ClassMove.TheVariants.{Lead}
use Rattle.suit_classes.proofs.CountedClassByClass.{moves_next, moves_room, class_numbers-all, counts_some, counts_none}
use Rattle.suit_classes.proofs.class_counts.add_leads.Goals as goal
use Rattle.suit_classes.proofs.class_counts.add_leads.Goals.{then-left-class-gt0, else-left-class-gt0}

pub push-requires : goal.push-requires
push-requires c =
    let room =
    moves_room (Lead c.args.seat) (λ class. nat_lt 0 (slice_index c.args.left.now class)) c.loop-class.class
    (omega arith) (counts_some _ c.if-left-class-gt0.true) in
    let long : length c.loop-class.leads.items
    ≡ length c.args.leads.now.items
    + length (map (Lead c.args.seat)
    (filter (λ class. nat_lt 0 (slice_index c.args.left.now class)) (range_with_len 0 c.loop-class.class))) =
    ap length c.loop-class.invariant
    ∙ length-append c.args.leads.now.items
    (map (Lead c.args.seat) (filter (λ class. nat_lt 0 (slice_index c.args.left.now class))
    (range_with_len 0 c.loop-class.class))) in
    (omega arith, omega (arith, long, room, c.requires))

pub loop-class-preserved : goal.loop-class-preserved
loop-class-preserved c = elim c.if-left-class-gt0.branch [
  | then-left-class-gt0 w ↦
      moves_next c.args.leads.now.items (Lead c.args.seat)
      (λ class. nat_lt 0 (slice_index c.args.left.now class)) c.loop-class.class true
      c.loop-class.leads.items c.if-left-class-gt0.leads.items c.loop-class.invariant
      (counts_some _ w.if-left-class-gt0.true) (ap (λ v. v.items) w.leads-is ∙ w.push.ensures.items)
  | else-left-class-gt0 w ↦
      moves_next c.args.leads.now.items (Lead c.args.seat)
      (λ class. nat_lt 0 (slice_index c.args.left.now class)) c.loop-class.class false
      c.loop-class.leads.items c.if-left-class-gt0.leads.items c.loop-class.invariant
      (counts_none _ w.if-left-class-gt0.false) (ap (λ v. v.items) w.leads-is)
]

pub returns : goal.returns
returns c =
    c.loop-class.invariant
    ∙ ap (λ (l : List ℕ). c.args.leads.now.items ++ map (Lead c.args.seat) l)
    (class_numbers-all (λ class. nat_lt 0 (slice_index c.args.left.now class)) c.loop-class.class (omega arith))
