use Rattle.std.proofs.Common.{◌≡◌, ◌∙◌, ◌-◌, ℕ, true, false, ap, refl, sym, arith}
use Rattle.std.specs.Prelude.{slice_index}
use Rattle.suit_cards.specs.declared.seats.Seat.TheVariants.{E}
use Rattle.suit_classes.specs.ClassPlaces.{ClassView, is_defence_class, left, west_count}
use Rattle.suit_classes.proofs.CountedClassByClass.{filled_none, filled_next, filled_kept, index_next, left_east-some}
use Rattle.suit_classes.proofs.CountedClassByClass.{left_east-none, counts_some, counts_none, index_few}
use Rattle.suit_classes.proofs.class_place.ClassPlace.left_to_east.Goals as goal
use Rattle.suit_classes.proofs.class_place.ClassPlace.left_to_east.Goals.{then-self-class-gt0, else-self-class-gt0}

pub overflow_add-index : goal.overflow_add-index
overflow_add-index c =
    omega (arith, c.loop-class.invariant.index, index_few (is_defence_class c.args.self.now) c.loop-class.class)

pub loop-class-init : goal.loop-class-init
loop-class-init c = record { filled = filled_none (left c.args.self.now c.args.counts.now E); index = refl }

pub loop-class-preserved : goal.loop-class-preserved
loop-class-preserved c = elim c.if-self-class-gt0.branch [
  | then-self-class-gt0 w ↦
      let is : is_defence_class c.args.self.now c.loop-class.class ≡ true =
      ap (λ (view : ClassView). is_defence_class view c.loop-class.class) (sym c.self.view_is)
      ∙ counts_some _ w.if-self-class-gt0.true in
      record {
        filled = filled_next
            (left c.args.self.now c.args.counts.now E) c.loop-class.left c.loop-class.class c.if-self-class-gt0.left
            w.saturating_sub.result
            (omega arith) c.loop-class.invariant.filled w.left-is
            (left_east-some c.args.self.now c.args.counts.now c.loop-class.class w.saturating_sub.result is
            (w.saturating_sub.ensures
            ∙ ap (λ (n : ℕ). n - slice_index c.self.inside.view.gone_e c.loop-class.class)
            (w.saturating_sub-dealt.ensures
            ∙ ap (λ (n : ℕ). slice_index c.self.inside.view.defence c.loop-class.class - n)
            (w.count_at.ensures ∙ ap (slice_index c.args.counts.now) c.loop-class.invariant.index))
            ∙ ap
            (λ (view : ClassView). slice_index view.defence c.loop-class.class - west_count c.args.self.now
            c.args.counts.now c.loop-class.class - slice_index view.gone_e c.loop-class.class) c.self.view_is));
        index = index_next
            (is_defence_class c.args.self.now) c.loop-class.class c.loop-class.index c.if-self-class-gt0.index true
            c.loop-class.invariant.index is w.index-is;
      }
  | else-self-class-gt0 w ↦
      let is : is_defence_class c.args.self.now c.loop-class.class ≡ false =
      ap (λ (view : ClassView). is_defence_class view c.loop-class.class) (sym c.self.view_is)
      ∙ counts_none _ w.if-self-class-gt0.false in
      record {
        filled = filled_kept
            (left c.args.self.now c.args.counts.now E) c.loop-class.left c.loop-class.class c.if-self-class-gt0.left
            c.loop-class.invariant.filled w.left-is
            (left_east-none c.args.self.now c.args.counts.now c.loop-class.class is);
        index = index_next
            (is_defence_class c.args.self.now) c.loop-class.class c.loop-class.index c.if-self-class-gt0.index false
            c.loop-class.invariant.index is w.index-is;
      }
]

pub returns : goal.returns
returns c = λ class small. c.loop-class.invariant.filled.done class (omega arith)
