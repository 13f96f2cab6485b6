-- Declarer's moves do not rest on West's counts: declarers_moves.
use Rattle.std.proofs.Common.{◌≡◌, true, refl}
use Rattle.std.specs.Prelude.{if◌then◌else◌}
use Rattle.std.proofs.lemmas.Bool.{false≢true}
use Rattle.suit_cards.specs.declared.seats.Seat.TheVariants.{N, E, S, W}
use Rattle.suit_cards.specs.Cards.{ClassLayout}
use Rattle.suit_game.specs.Positions.{after}
use Rattle.suit_classes.specs.declared.class_turn.ClassTurn.TheVariants as turns
use Rattle.suit_classes.specs.declared.class_view.ClassView.{ClassView}
use Rattle.suit_classes.specs.declared.class_trick.ClassTrick.{ClassTrick}
use Rattle.suit_classes.specs.declared.class_trick.ClassTrick.TheVariants.{Closed, Open}
use Rattle.suit_classes.specs.ClassPlaces.{class_decided_in, class_moves, class_moves_in}
use Rattle.suit_classes.specs.ClassPlaces.{class_turn, turn_of}
use Rattle.suit_plans.specs.Masses.{is_declarers}

declarers_in : (view : ClassView) (counts other : ClassLayout) (trick : ClassTrick)
    → is_declarers (if class_decided_in view trick then turns.Decided else turn_of trick) ≡ true
    → class_moves_in view counts trick ≡ class_moves_in view other trick
declarers_in view counts other Closed plays = refl
declarers_in view counts other (Open N after winner highest) plays = refl
declarers_in view counts other (Open S after winner highest) plays = refl
declarers_in view counts other (Open E after winner highest) plays = absurd (false≢true plays)
declarers_in view counts other (Open W after winner highest) plays = absurd (false≢true plays)

-- declarer's moves are the same for all counts of West's
pub declarers_moves : (view : ClassView) (counts other : ClassLayout) → is_declarers (class_turn view) ≡ true
    → class_moves view counts ≡ class_moves view other
declarers_moves view counts other plays = declarers_in view counts other view.trick plays
