use Rattle.std.proofs.Common.{◌≡◌, ◌∙◌, ◌++◌, [], ◌∷◌, List, true, false, ap, sym, length, arith}
use Rattle.std.specs.Prelude.{map, nat_lt, slice_index}
use Rattle.std.proofs.lemmas.Bool.{eqb-true, eqb-false}
use Rattle.suit_classes.specs.declared.class_moves.ClassMove.{ClassMove}
use Rattle.suit_classes.specs.declared.class_moves.ClassMove.TheVariants.{Follow, ShowOut}
use Rattle.suit_classes.specs.ClassPlaces.{counted_classes}
use Rattle.suit_classes.proofs.CountedClassByClass.{moves_next, moves_room, class_numbers-all, counts_some, counts_none}
use Rattle.suit_classes.proofs.CountedClassByClass.{counted_classes-most, or_show_out-none, or_show_out-some}
use Rattle.suit_classes.proofs.class_counts.follows_of.Goals as goal
use Rattle.suit_classes.proofs.class_counts.follows_of.Goals.{then-left-class-gt0, else-left-class-gt0}

pub push-requires : goal.push-requires
push-requires c =
    let room =
    moves_room Follow (λ class. nat_lt 0 (slice_index c.args.left.now class)) c.loop-class.class (omega arith)
    (counts_some _ c.if-left-class-gt0.true) in
    (omega arith, omega (arith, ap length c.loop-class.invariant, room, counted_classes-most c.args.left.now))

pub loop-class-preserved : goal.loop-class-preserved
loop-class-preserved c = elim c.if-left-class-gt0.branch [
  | then-left-class-gt0 w ↦
      moves_next [] Follow (λ class. nat_lt 0 (slice_index c.args.left.now class)) c.loop-class.class true
      c.loop-class.follows.items c.if-left-class-gt0.follows.items c.loop-class.invariant
      (counts_some _ w.if-left-class-gt0.true) (ap (λ v. v.items) w.follows-is ∙ w.push.ensures.items)
  | else-left-class-gt0 w ↦
      moves_next [] Follow (λ class. nat_lt 0 (slice_index c.args.left.now class)) c.loop-class.class false
      c.loop-class.follows.items c.if-left-class-gt0.follows.items c.loop-class.invariant
      (counts_none _ w.if-left-class-gt0.false) (ap (λ v. v.items) w.follows-is)
]

pub returns-then-is_empty : goal.returns-then-is_empty
returns-then-is_empty c =
    let all : c.loop-class.follows.items ≡ map Follow (counted_classes c.args.left.now) =
    c.loop-class.invariant
    ∙ ap (map Follow)
    (class_numbers-all (λ class. nat_lt 0 (slice_index c.args.left.now class)) c.loop-class.class (omega arith)) in
    let none : length (map Follow (counted_classes c.args.left.now)) ≡ 0 =
    sym (ap length all)
    ∙ eqb-true (length c.loop-class.follows.items) 0 (sym c.is_empty.ensures ∙ c.if-is_empty.true) in
    c.push-then-is_empty.ensures.items ∙ ap (λ (l : List ClassMove). l ++ ShowOut ∷ []) all
    ∙ or_show_out-none (map Follow (counted_classes c.args.left.now)) none

pub returns-else-is_empty : goal.returns-else-is_empty
returns-else-is_empty c =
    let all : c.loop-class.follows.items ≡ map Follow (counted_classes c.args.left.now) =
    c.loop-class.invariant
    ∙ ap (map Follow)
    (class_numbers-all (λ class. nat_lt 0 (slice_index c.args.left.now class)) c.loop-class.class (omega arith)) in
    all ∙ or_show_out-some (map Follow (counted_classes c.args.left.now))
    (λ none. eqb-false (length c.loop-class.follows.items) 0 (sym c.is_empty.ensures
    ∙ c.if-is_empty.false) (ap length all ∙ none))
