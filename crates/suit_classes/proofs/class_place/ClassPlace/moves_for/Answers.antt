use Rattle.std.proofs.Common.{◌∙◌, ap, sym}
use Rattle.std.specs.Prelude.{map}
use Rattle.suit_cards.specs.declared.seats.Seat.{Seat}
use Rattle.suit_cards.specs.declared.seats.Seat.TheVariants.{E, W}
use Rattle.suit_cards.specs.Cards.{Indices}
use Rattle.suit_classes.specs.declared.class_moves.ClassMove.TheVariants.{Follow}
use Rattle.suit_classes.specs.declared.class_trick.ClassTrick.TheVariants.{Open}
use Rattle.suit_classes.specs.ClassPlaces.{ClassView, or_show_out}
use Rattle.suit_classes.proofs.CountedClassByClass.{counted_is_left, follows_at}
use Rattle.suit_classes.proofs.class_place.ClassPlace.moves_for.Goals as goal

pub returns-in-W : goal.returns-in-W
returns-in-W c =
    c.follows_of-in-W.ensures
    ∙ ap (λ (l : Indices). or_show_out (map Follow l))
    (counted_is_left c.args.self.now c.args.counts.now W _ c.left_to_west.ensures)
    ∙ follows_at c.args.self.now c.args.counts.now W _ _ _
    (sym (ap (λ (view : ClassView). view.trick) c.self.view_is) ∙ c.in-Open.is
    ∙ ap (λ (seat : Seat). Open seat c.in-Open.after c.in-Open.winner c.in-Open.highest) c.in-W.is)

pub returns-in-E : goal.returns-in-E
returns-in-E c =
    c.follows_of-in-E.ensures
    ∙ ap (λ (l : Indices). or_show_out (map Follow l))
    (counted_is_left c.args.self.now c.args.counts.now E _ c.left_to_east.ensures)
    ∙ follows_at c.args.self.now c.args.counts.now E _ _ _
    (sym (ap (λ (view : ClassView). view.trick) c.self.view_is) ∙ c.in-Open.is
    ∙ ap (λ (seat : Seat). Open seat c.in-Open.after c.in-Open.winner c.in-Open.highest) c.in-E.is)
